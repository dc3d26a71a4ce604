-- The lemmas that the proofs of `job_lines` share.
pub mod Digits
pub mod Widths
pub mod First
pub mod Counts
pub mod Texts
