-- What a step's turns leave in the state that they are lent, and what they note.
pub mod Notes
pub mod Lent
