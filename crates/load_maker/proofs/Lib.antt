pub mod LoadLaws
pub mod TokenLaws
pub mod FitLaws
pub mod TextLaws
