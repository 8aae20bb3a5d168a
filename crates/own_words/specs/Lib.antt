pub mod Words
pub mod Told
pub mod Laws
pub mod Held
pub mod Seen
