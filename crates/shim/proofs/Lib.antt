-- What an exported call leaves of what was lent.
pub mod Kept
pub mod Left
