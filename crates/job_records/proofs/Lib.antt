-- The laws of a job's records, and the lemmas that they share.
pub mod Chunk
pub mod Filling
pub mod ReadLaws
pub mod ReaderLaws
pub mod EntryLaws
pub mod ValueLaws
pub mod WindowLaws
