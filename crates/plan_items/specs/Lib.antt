pub mod Kinds
pub mod Plans
pub mod Validation
pub mod Words
