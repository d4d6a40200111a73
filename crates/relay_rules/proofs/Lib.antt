pub mod Numbering
pub mod RouteLaws
mod Routes
