pub mod Operations
pub mod Passing
pub mod Says
