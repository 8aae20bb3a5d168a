pub mod Lower
pub mod Shows
pub mod Follows
pub mod Laws
