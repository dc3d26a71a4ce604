-- The laws of `immersion_heater` and the lemmas that its proofs share.
pub mod Shell
pub mod Keeps
pub mod SupplyLaws
