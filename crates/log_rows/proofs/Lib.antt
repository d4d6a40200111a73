pub mod RowEvents
pub mod Parses
mod LeftFrames
pub mod LogSpans
mod Turns
pub mod LogSteps
