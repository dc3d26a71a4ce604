-- The lemmas that the proofs of `layer_losses` share.
mod Limit
