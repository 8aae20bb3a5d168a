pub mod Values
pub mod Steps
pub mod Seeing
pub mod Names
pub mod Destroying
pub mod Shapes
pub mod Forms
pub mod Numbers
pub mod Evaluating
pub mod Binding
pub mod Executing
pub mod Running
pub mod Texts
mod Proved
pub mod Straying
mod Worked
mod Wanting
mod Tracked
mod Instance
