pub mod NameLaws
pub mod Closing
