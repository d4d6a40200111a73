pub mod LogText
pub mod Logging
pub mod RowsMade
pub mod Spec
pub mod Tellers
pub mod TellingLaws
