-- The definitions of an event and of the events in a row.
pub mod Event
pub mod Lent
pub mod Kept
