pub mod Check
pub mod Found
pub mod Facts
