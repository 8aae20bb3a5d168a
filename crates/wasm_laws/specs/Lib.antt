pub mod Fits
pub mod Laws
pub mod Places
pub mod Stretches
