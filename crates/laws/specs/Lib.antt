pub mod One
pub mod Examples
