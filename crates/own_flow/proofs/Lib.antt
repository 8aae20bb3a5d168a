pub mod WordLaws
pub mod FlowLaws
pub mod TableLaws
pub mod RoundLaws
pub mod FactLaws
pub mod TestLaws
