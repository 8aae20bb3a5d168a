pub mod Judging
pub mod Conditions
pub mod Covering
