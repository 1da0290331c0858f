pub mod Schemas
pub mod Parts
