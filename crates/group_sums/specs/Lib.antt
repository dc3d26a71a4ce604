-- The definitions of `group_sums`: sums over a running group's layers (01, Mix).
pub mod Sums
