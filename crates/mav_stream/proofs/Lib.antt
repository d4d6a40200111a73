mod Windows
pub mod Steps
pub mod Answers
mod CallList
mod Counts
mod Lengths
mod Skipped
pub mod NextSpans
