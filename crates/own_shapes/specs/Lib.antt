pub mod Types
pub mod Places
pub mod Spans
pub mod Counts
pub mod Laws
