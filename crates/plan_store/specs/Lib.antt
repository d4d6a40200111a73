pub mod Keeps
pub mod MemStores
