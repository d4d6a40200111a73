pub mod LastLists
pub mod Ranges
pub mod Repetitions
