-- The definitions of `input_window`: when a record can be read in a window, and what is left of one.
pub mod Window
