pub mod View
pub mod Closures
pub mod Single
