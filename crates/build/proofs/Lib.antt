pub mod Build
pub mod Bases
pub mod PlainObject
