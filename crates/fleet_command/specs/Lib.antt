pub mod Plays
pub mod Spec
