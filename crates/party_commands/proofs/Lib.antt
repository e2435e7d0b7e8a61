pub mod NodeLaws
pub mod ClientLaws
