pub mod Compile
pub mod Entry
pub mod State
pub mod Table
