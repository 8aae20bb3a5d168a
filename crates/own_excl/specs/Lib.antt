pub mod View
pub mod Changes
pub mod Found
pub mod Order
