pub mod PlaceSteps
pub mod Passing
pub mod Known
pub mod Undeclared
pub mod Ways
