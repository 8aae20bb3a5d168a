pub mod Codes
pub mod Rests
