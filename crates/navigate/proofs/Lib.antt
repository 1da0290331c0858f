pub mod Answering
pub mod Steps
pub mod Walking
