mod CallSteps
mod Fewer
mod FrameSteps
mod FrameTried
mod Halves
mod Histories
mod Judging
mod Numbers
mod Passing
mod Places
mod Results
pub mod Stopping
mod TapeSteps
mod Telling
