pub mod CountSink
pub mod Folder
pub mod MemoryFolder
pub mod MemorySink
pub mod Outside
pub mod Plan
