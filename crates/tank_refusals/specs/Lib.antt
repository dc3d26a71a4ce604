-- The definitions of `tank_refusals`: what a lent step is refused for (01, The four calls).
pub mod Refusals
