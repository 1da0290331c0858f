pub mod Verdicts
pub mod Numbers
pub mod Strings
pub mod ByKind
