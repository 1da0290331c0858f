pub mod Merge
pub mod Pairs
pub mod Meets
