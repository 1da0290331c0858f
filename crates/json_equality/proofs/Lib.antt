pub mod Maps
pub mod Equalities
pub mod Shapes
pub mod Entries
pub mod Walk
pub mod Steps
pub mod Nodes
pub mod Values
