pub mod Theorem
mod Runs
