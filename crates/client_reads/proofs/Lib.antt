pub mod SeenLaws
pub mod FaultLaws
pub mod OrderLaws
pub mod ChoiceLaws
