-- The definitions of `layer_losses`: what one layer loses, and where it ends (01, Losses and limit).
pub mod Loss
