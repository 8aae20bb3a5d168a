pub mod Prefixes
pub mod Declared
pub mod Sorted
pub mod Structs
