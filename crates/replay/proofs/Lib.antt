pub mod Judging
pub mod Called
pub mod Running
