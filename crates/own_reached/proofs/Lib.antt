pub mod Joined
mod LastMakers
mod OnTraces
