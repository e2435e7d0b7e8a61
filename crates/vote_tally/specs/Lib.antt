pub mod Votes
pub mod Classes
pub mod Tallies
pub mod Kept
