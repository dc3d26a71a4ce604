-- The laws of `job_history`.
pub mod TurnsTold
pub mod DemandHistory
pub mod HistoryWindow
