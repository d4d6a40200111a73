pub mod Elements
pub mod Keys
pub mod ManyFields
pub mod Faultless
pub mod OneMessage
pub mod Wholes
pub mod Rows
