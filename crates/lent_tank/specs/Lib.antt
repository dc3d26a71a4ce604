-- A tank, a report and a step as C lends them: arrays of numbers, and flags as bytes.
pub mod Layout
pub mod Flags
pub mod Tanks
pub mod Reports
pub mod Steps
