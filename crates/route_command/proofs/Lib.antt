mod PortSteps
mod PortTexts
pub mod Pieces
pub mod Runs
pub mod Reports
pub mod Routed
pub mod Worked
