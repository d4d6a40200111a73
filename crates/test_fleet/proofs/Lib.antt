pub mod Scenarios
pub mod Services
pub mod Restarts
pub mod TwoDrones
pub mod Noise
pub mod Reportings
pub mod OneItem
pub mod Playable
