pub mod Counted
pub mod Undeclared
pub mod Listed
pub mod Texts
pub mod Looking
