pub mod Buffers
pub mod Leaves
pub mod Loops
pub mod ByKind
pub mod Ends
pub mod Early
pub mod AtOnce
