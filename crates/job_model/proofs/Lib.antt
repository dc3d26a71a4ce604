-- The laws of `job_model`.
pub mod Moves
pub mod Ends
pub mod Rest
pub mod Handed
pub mod EmptyInput
pub mod RecordWindow
pub mod Windowed
pub mod WindowLoop
pub mod Given
