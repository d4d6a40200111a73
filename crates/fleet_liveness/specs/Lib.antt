pub mod Uncontended
pub mod Room
pub mod Examples
