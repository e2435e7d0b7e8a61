pub mod PartLaws
pub mod JoinLaws
