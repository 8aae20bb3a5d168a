pub mod Frame
pub mod Tame
pub mod Reading
pub mod Writes
pub mod Leaves
pub mod Closures
pub mod Laws
