pub mod Build
pub mod Rows
pub mod Derive
pub mod Alike
