-- The definitions of `repeating_layers`: layers that repeat (01, Refill).
pub mod Repeats
