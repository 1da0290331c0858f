pub mod Outcome
pub mod Visit
pub mod Nodes
pub mod Validate
pub mod Met
