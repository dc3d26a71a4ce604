-- The definitions of `layer_filling`: the filling of one layer (01, Refill).
pub mod Filling
pub mod Lent
