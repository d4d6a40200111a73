pub mod Ticks
pub mod Ranges
pub mod Ways
pub mod Homewards
