-- What the calls answer from what their parts decide, the proof of demand 3, the laws of the calls, and what became of 01's refusal 8 and of
-- position 1.
pub mod Answers
pub mod Demand
pub mod EightSplit
pub mod TopLayer
pub mod Calls
pub mod Kept
pub mod Fitted
