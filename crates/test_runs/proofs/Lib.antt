pub mod Plainly
pub mod Lines
pub mod Reports
pub mod Restarted
