pub mod Messages
pub mod Profile
