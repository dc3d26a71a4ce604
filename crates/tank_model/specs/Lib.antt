-- What a tank is made from and a step changes, a step's checks and work, the history of a list of calls, and what demand 3 says of it; and what became of
-- 01's refusal 8 and of position 1.
pub mod Fixed
pub mod Order
pub mod FirstRefusal
pub mod Checks
pub mod Run
pub mod Work
pub mod History
pub mod Members
pub mod Arguments
pub mod Refusals
pub mod Course
pub mod HistoryDemand
pub mod EightSplit
pub mod SetPointCases
pub mod PositionCases
pub mod TopLayer
