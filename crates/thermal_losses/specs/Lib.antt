-- The definitions of `thermal_losses`: losses and limit of all layers (01, Losses and limit).
pub mod Losses
