pub mod Repeats
pub mod Known
pub mod Walked
pub mod Surveyed
pub mod Judged
pub mod PartsIn
pub mod Exceeded
pub mod Worked
