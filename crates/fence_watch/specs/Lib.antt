pub mod Segments
pub mod Fences
pub mod Judging
