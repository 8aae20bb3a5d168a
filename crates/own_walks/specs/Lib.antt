pub mod Graphs
pub mod Building
pub mod Pairs
pub mod Reaching
pub mod AtNodes
pub mod Laws
