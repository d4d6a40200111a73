pub mod Stays
pub mod Readings
pub mod Writings
pub mod Endings
pub mod Refusals
pub mod Known
pub mod Worked
