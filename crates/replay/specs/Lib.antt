-- The definitions of `replay`: when two texts are the same.
pub mod Same
