pub mod Lines
pub mod Grows
pub mod Steps
pub mod Stays
pub mod Endings
