pub mod Totals
pub mod Weights
pub mod Stepping
pub mod Breaking
pub mod Ordered
pub mod Kept
pub mod Ways
pub mod Walking
