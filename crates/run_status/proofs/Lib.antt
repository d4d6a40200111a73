pub mod RunsBeforeStatus
pub mod Ends
mod HeldLines
