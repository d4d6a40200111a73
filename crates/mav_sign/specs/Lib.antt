pub mod Signing
pub mod History
pub mod Kept
pub mod Endpoints
pub mod Streams
pub mod Forgetting
