pub mod Values
pub mod Forms
pub mod Search
pub mod View
pub mod Weights
pub mod First
pub mod Answers
pub mod Laws
