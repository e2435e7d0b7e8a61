pub mod LevelLaws
pub mod NumberLaws
pub mod SigningLaws
pub mod SizeLaws
pub mod SpendingLaws
