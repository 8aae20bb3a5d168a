pub mod Scopes
pub mod Makers
