pub mod CoreSource
pub mod CoreView
pub mod CoreRun
pub mod Sizes
pub mod Laws
