pub mod Parties
pub mod Entries
pub mod ListedLaws
pub mod PenLaws
