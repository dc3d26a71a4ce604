-- Proves how the parts of a step's code work out its answer.
pub mod StepWorked
