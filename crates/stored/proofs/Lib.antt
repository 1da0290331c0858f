pub mod Places
pub mod Laying
pub mod Reading
pub mod Unpacking
