pub mod Matching
pub mod Known
pub mod Surroundings
pub mod Laws
