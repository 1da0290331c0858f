pub mod Faults
pub mod Facts
mod Loops
pub mod Numbers
