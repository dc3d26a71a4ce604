-- The laws of a pair that ends the running group.
mod InOrder
mod Parting
