pub mod Stays
pub mod Endings
pub mod WholeText
pub mod Finish
pub mod Worked
