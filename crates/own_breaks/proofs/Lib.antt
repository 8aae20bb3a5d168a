pub mod Ranks
pub mod Best
pub mod Marks
pub mod Blamed
pub mod Live
pub mod Gathering
