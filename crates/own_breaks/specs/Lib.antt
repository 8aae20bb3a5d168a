pub mod Asking
pub mod Blaming
pub mod Settling
pub mod NodeFacts
pub mod Laws
