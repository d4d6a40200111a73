pub mod BitSteps
pub mod Slicing
pub mod TableEntries
pub mod Eights
pub mod Halving
pub mod Parts
