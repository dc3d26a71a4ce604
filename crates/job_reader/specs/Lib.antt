-- The reader that carries its bytes, and a job read to its end.
pub mod Reader
pub mod WholeJob
