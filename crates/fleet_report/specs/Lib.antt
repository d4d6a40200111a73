pub mod Texts
pub mod Parts
pub mod Events
pub mod Reports
pub mod Sayings
