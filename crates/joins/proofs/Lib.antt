pub mod Laws
pub mod Limits
pub mod Runs
pub mod Gathered
