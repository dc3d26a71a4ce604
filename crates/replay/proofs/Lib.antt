-- The laws of `replay`.
pub mod Same
pub mod Comparing
