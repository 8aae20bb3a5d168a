pub mod Hows
pub mod View
pub mod Covers
