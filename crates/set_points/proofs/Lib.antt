-- The lemmas of `set_points`.
pub mod Given
