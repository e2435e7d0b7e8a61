pub mod RecordLaws
pub mod StopLaws
pub mod AppendLaws
pub mod OpeningLaws
pub mod FoundLaws
pub mod ForeseenLaws
