-- The laws of bytes that are moved down.
pub mod Moved
