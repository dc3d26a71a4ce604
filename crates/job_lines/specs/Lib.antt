-- The definitions of `job_lines`: the text of numbers and lines, and what a buffer holds that a text is put into.
pub mod Lengths
pub mod Put
pub mod Text
pub mod Lines
