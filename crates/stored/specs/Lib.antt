pub mod Stored
pub mod Input
pub mod Group
