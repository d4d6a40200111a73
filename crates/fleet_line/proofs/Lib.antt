pub mod Usages
pub mod Scenarios
pub mod Completes
mod Told
