-- The laws of a mixing, and the lemmas that they share.
pub mod Group
pub mod Rounds
pub mod Length
pub mod Places
pub mod Order
pub mod Answers
pub mod Keeps
pub mod Joins
