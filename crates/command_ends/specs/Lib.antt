pub mod Outcome
pub mod Endings
pub mod Answers
