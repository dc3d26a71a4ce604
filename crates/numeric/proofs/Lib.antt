-- The laws of `numeric`, and the lemmas that its proofs share.
pub mod Infinity
pub mod WholePart
pub mod Layer
pub mod NotANumber
pub mod Difference
pub mod Rounding
pub mod Zeros
pub mod Finite
pub mod SameValue
pub mod Members
pub mod Within
pub mod Rising
pub mod Filling
