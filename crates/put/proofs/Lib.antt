pub mod Steps
pub mod Weave
pub mod Entries
pub mod Laid
pub mod Alike
