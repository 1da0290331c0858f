pub mod Answers
pub mod Details
pub mod Paths
