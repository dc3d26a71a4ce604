-- The definitions of the refill.
pub mod Refill
pub mod Lent
