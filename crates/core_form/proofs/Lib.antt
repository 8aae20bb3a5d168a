pub mod Views
mod Worked
