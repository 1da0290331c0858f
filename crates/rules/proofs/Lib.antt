pub mod Rules
mod Parts
