pub mod Begins
pub mod Room
pub mod Runs
pub mod Start
pub mod Views
