pub mod Spec
pub mod Reads
pub mod Writes
pub mod Ends
pub mod Known
pub mod Dialects
pub mod Examples
