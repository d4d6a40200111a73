pub mod Journals
pub mod Steps
pub mod Invariant
pub mod Moments
pub mod Participants
pub mod Merging
pub mod Lending
pub mod Labels
