pub mod LebLaws
pub mod Outs
mod Examples
mod Tables
pub mod Nests
pub mod WithinLaws
pub mod Codes
pub mod ShortestLaws
