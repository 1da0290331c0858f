pub mod Navigation
pub mod Calls
pub mod Examples
pub mod Grouping
pub mod Grouped
