-- The lemmas of `heater_switches`.
mod Given
