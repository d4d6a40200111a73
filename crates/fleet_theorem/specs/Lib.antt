pub mod Theorem
pub mod Completeness
