pub mod WordLaws
pub mod PlaceLaws
pub mod IndexLaws
pub mod OrderLaws
pub mod MadeLaws
