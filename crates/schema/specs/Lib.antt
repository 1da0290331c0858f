pub mod Shape
pub mod Look
