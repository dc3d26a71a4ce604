-- The definitions of `numeric`: doubles and what 01, Arithmetic underneath, makes of them; how a specification writes a loop.
pub mod Double
pub mod Zeros
pub mod Compare
pub mod Close
pub mod Iterate
pub mod Holds
pub mod Copy
pub mod Tabulate
pub mod Sum2
pub mod Whole
pub mod Places
pub mod Products
pub mod InPlace
pub mod Descent
