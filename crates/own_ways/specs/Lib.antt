pub mod Ways
pub mod Exact
pub mod Arithmetic
pub mod Laws
