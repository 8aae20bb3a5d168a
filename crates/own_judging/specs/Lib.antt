pub mod Made
pub mod Judged
pub mod Coverage
