-- The laws of what is kept of a round, from the layers that a group fills to a pair that joins it.
pub mod Fill
pub mod Members
pub mod Written
mod Joining
mod KeptHeat
mod Joined
