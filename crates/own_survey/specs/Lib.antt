pub mod Parts
pub mod Limits
pub mod Judgements
pub mod Names
pub mod Walks
pub mod TextWalks
pub mod Laws
