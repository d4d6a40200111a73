pub mod Reporting
pub mod Actions
pub mod Causes
pub mod Safe
pub mod Meaning
