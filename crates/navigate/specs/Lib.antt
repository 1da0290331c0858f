pub mod Walk
pub mod Path
pub mod Navigate
