pub mod Datagrams
pub mod Links
pub mod MemLinks
pub mod Paces
pub mod Tallies
