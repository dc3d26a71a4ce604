-- The laws of `working_order` and the lemmas that its proofs share.
pub mod Entries
pub mod Insert
pub mod Sorting
pub mod Same
