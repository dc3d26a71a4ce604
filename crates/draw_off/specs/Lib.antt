-- The definitions of cold water and of the draw.
pub mod Cold
pub mod Draw
pub mod Lent
