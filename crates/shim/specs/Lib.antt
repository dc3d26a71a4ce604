-- What the exported calls answer and leave in the arrays lent.
pub mod Answers
