pub mod Count
pub mod Bytes
pub mod Parts
pub mod Octet
pub mod Grammar
