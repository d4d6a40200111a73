pub mod Lines
pub mod Done
pub mod Once
pub mod Accepted
pub mod Since
