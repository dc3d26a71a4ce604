-- The definitions of `job_history`: what is told of a step's turns, its lines, and what a whole job's history prints.
pub mod Facts
pub mod Lent
pub mod Lengths
pub mod Lines
pub mod History
