-- The definitions of `job_model`: a job, what one record makes of it, all that it prints, and how far a program came that prints it, and a job read window
-- by window.
pub mod StepLines
pub mod Job
pub mod Handed
pub mod Windows
