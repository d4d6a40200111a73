pub mod Results
pub mod Halts
pub mod Lines
pub mod Steps
pub mod Loads
pub mod Telling
pub mod Ends
mod Starts
pub mod Stays
pub mod Decoded
pub mod Worked
