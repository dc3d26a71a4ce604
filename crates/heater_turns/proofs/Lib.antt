-- The lemmas that the proofs of the turns' code share.
pub mod TurnLoop
