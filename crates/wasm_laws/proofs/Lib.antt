pub mod Stretches
pub mod Directions
pub mod Opcodes
pub mod Memory
pub mod Spelled
pub mod Modules
