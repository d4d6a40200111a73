pub mod Logged
pub mod Steps
mod StatusTold
mod Worked
mod Starts
mod RowBytes
mod Loads
mod RowLines
