pub mod Says
pub mod Order
pub mod Keys
pub mod Leaves
