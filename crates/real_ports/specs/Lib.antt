pub mod Opened
pub mod Waits
