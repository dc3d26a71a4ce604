-- The lemmas that proofs of `cylinder` cite.
pub mod NoVolume
mod FirstPlaces
