pub mod Scenarios
pub mod OneItem
