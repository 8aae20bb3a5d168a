pub mod Chosen
pub mod ItemLaws
pub mod Saying
