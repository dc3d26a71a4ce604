-- The definitions of `streams`: what became of a buffer, and of a text.
pub mod Whole
