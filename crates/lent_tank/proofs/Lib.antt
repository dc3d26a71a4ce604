-- What the bytes say, and what fills the heaters' places.
pub mod Bytes
pub mod Places
pub mod Back
