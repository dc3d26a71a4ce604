-- What the shorter sums give, by Sum2 as it is defined.
pub mod Shorter
