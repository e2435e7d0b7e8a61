pub mod Kinds
pub mod Values
pub mod ValueLaws
pub mod Made
pub mod MadeLaws
