pub mod Bodies
pub mod Flow
pub mod Falling
