pub mod Words
pub mod Flow
pub mod Facts
pub mod Rounds
