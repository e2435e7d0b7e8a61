pub mod Sums
pub mod MemberLaws
pub mod ConflictLaws
pub mod MarkLaws
pub mod MergeLaws
