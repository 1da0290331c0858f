pub mod Nearest
pub mod Pattern
pub mod Check
pub mod Equal
pub mod Magnitude
