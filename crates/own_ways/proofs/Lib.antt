pub mod WayRules
pub mod Results
pub mod Worked
