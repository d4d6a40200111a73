pub mod Closing
pub mod Rounds
pub mod Saying
pub mod Taking
