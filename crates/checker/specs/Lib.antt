pub mod Flat
pub mod Span
pub mod Validated
pub mod Compiled
