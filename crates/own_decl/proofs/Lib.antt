pub mod ListSteps
pub mod Ends
pub mod FileTails
pub mod Whole
