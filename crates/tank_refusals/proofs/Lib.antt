-- What is refused by the parts of the checks.
pub mod FirstRefusal
