pub mod Services
pub mod Sound
pub mod Kept
pub mod Laws
