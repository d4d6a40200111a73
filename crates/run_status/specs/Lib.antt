pub mod Endings
pub mod Runs
pub mod StatusText
pub mod Seen
pub mod HeldLines
