pub mod Deliveries
mod Frames
mod Limits
