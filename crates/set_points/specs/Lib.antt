-- The definitions of `set_points`: the lower and the upper one of a heater's set points (01, Tank).
pub mod SetPoints
