pub mod Executor
pub mod Commander
pub mod Answers
pub mod Laws
