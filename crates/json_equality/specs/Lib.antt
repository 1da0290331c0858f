pub mod Json
pub mod Value
pub mod Walk
