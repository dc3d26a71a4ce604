-- The definitions of `job_windows`: what becomes of a record's lines, and what the loops over windows keep.
pub mod Lines
pub mod Input
