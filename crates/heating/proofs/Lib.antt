-- The laws of `heating` and the lemmas that its proofs share.
pub mod Mixed
pub mod Keeps
pub mod Offers
