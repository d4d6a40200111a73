pub mod Disks
pub mod Layout
pub mod Crashes
pub mod MemDisks
pub mod MemCalls
