pub mod Layout
pub mod Walk
pub mod Rows
pub mod Lent
