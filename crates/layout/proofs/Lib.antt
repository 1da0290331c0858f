pub mod Walk
pub mod Entries
