pub mod View
pub mod Building
pub mod Saturating
pub mod Leaves
pub mod Tally
pub mod Answers
pub mod Slots
