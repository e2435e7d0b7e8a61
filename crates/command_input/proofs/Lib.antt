pub mod Counts
pub mod SourceLaws
pub mod Stopping
