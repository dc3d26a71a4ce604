-- The lemmas that the proofs of `record_bodies` share.
pub mod InRange
