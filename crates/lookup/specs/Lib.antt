pub mod Find
pub mod Lookup
