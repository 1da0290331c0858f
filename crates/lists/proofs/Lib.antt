pub mod Walked
pub mod Below
