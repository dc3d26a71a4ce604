-- What a tank holds, what the calls make and step answer, and demand 3; and what became of 01's refusal 8 and of position 1.
pub mod Tank
pub mod Calls
pub mod Answers
pub mod Demand
pub mod EightSplit
pub mod TopLayer
