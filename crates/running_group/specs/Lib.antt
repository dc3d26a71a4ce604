-- What the contracts of the functions that work a round say (01, Mix).
pub mod Rounds
