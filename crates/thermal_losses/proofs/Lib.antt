-- The lemmas that the proofs of `thermal_losses` share.
mod Layer
