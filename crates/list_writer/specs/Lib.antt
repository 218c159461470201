pub mod Writing
pub mod EntryLaws
