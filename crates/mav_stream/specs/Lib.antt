pub mod Held
pub mod Nexts
pub mod Progress
pub mod Calls
pub mod Skips
pub mod Spans
pub mod Entries
