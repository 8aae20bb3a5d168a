mod Proved
pub mod Spelling
pub mod Worked
pub mod Refused
