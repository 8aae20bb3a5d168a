pub mod LastMakers
pub mod Laws
