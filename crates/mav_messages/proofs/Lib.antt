pub mod Decoded
pub mod Naming
