pub mod FenceFile
pub mod Files
pub mod FenceText
pub mod Saying
pub mod Spec
pub mod Examples
