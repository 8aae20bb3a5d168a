pub mod Fits
pub mod Worlds
pub mod Ways
pub mod Steady
pub mod Programs
pub mod Laws
