-- How the code of a step holds what the definitions speak of.
pub mod Lent
