pub mod Marked
pub mod Elsewhere
