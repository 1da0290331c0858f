pub mod Chase
pub mod Meets
