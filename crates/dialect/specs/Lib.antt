pub mod Types
pub mod Names
pub mod Shape
pub mod Spelled
pub mod Grammar
pub mod ProfileTable
pub mod Indices
