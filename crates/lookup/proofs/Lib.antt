pub mod Find
pub mod Keys
