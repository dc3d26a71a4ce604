-- The definitions of `mixing`, in the order of 01's section Mix; the call comes last.
pub mod Limits
pub mod Round
pub mod Rearrange
pub mod Mix
