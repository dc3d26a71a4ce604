-- The laws of `job_windows`.
pub mod Told
pub mod Taken
pub mod Fed
