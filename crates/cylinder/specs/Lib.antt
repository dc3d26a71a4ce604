-- The definitions of a cylinder's layers.
pub mod Layers
