-- The laws of a job read to its end.
pub mod WholeJob
