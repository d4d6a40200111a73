pub mod Usage
pub mod Fleets
pub mod Promised
