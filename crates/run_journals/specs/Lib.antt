pub mod Journals
pub mod Pairs
pub mod Kept
