-- What the proofs of an event and of the events in a row cite, and those of the crates above.
pub mod FirstVolumes
pub mod Keeps
pub mod KeptSums
pub mod NoDraw
pub mod Numbers
pub mod Worked
