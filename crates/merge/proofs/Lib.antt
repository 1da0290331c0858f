pub mod Lists
pub mod Steps
pub mod Laws
pub mod Limits
