pub mod TreeLaws
pub mod PathLaws
pub mod PartLaws
pub mod ValidLaws
pub mod SpendingLaws
