-- The definitions of a job's records: numbers in a list of bytes, a step's repeated fields, the records, their numbers and values, which of them are well
-- formed,
-- and records in a window of the bytes.
pub mod Bytes
pub mod Fields
pub mod Records
pub mod Values
pub mod ReadValues
pub mod WellFormed
pub mod Windows
