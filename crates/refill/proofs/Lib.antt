pub mod Descents
pub mod Filled
pub mod Refilling
pub mod Repeating
