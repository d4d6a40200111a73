pub mod Totals
pub mod Preservation
pub mod Outcomes
pub mod OwnEntries
pub mod Opened
pub mod Merged
pub mod Labels
