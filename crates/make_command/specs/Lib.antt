pub mod Spec
pub mod Theorem
