pub mod Values
pub mod Messages
pub mod Targets
pub mod Plans
