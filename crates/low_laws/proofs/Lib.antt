pub mod Memory
pub mod Lands
pub mod Numbers
pub mod Words
pub mod Copies
pub mod Forms
pub mod Calls
pub mod Whole
pub mod Sizes
pub mod Modules
mod Worked
