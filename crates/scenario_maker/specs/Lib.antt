pub mod Generator
pub mod Sums
pub mod Generated
