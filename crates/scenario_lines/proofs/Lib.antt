pub mod Indices
pub mod Digits
pub mod NameWords
pub mod WireWords
pub mod ReadWords
pub mod ReadItems
pub mod Forms
pub mod FirstWords
pub mod ItemForms
pub mod WholeLines
pub mod Permitted
mod ItemRows
