pub mod Descents
pub mod Untouched
