pub mod Frames
pub mod Store
pub mod World
pub mod Safety
pub mod History
pub mod Examples
