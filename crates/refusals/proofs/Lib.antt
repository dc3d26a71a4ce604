-- What the proofs of other crates cite of the refusals.
pub mod Numbers
