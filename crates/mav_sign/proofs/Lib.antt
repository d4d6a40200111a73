pub mod Histories
mod Keeping
pub mod Profiles
mod Sending
mod Hearing
mod Streaming
mod Forgetting
mod ForgettingLaw
