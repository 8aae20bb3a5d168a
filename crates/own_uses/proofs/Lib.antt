pub mod TypeLaws
pub mod TallyLaws
pub mod LeafLaws
pub mod LimitLaws
pub mod BindingLaws
pub mod ClauseLaws
pub mod BodyLaws
