pub mod Lists
pub mod Unfolding
pub mod Leaves
pub mod PlaceOrder
pub mod Counting
pub mod Spelling
pub mod Worked
