pub mod Beginnings
pub mod ReasonLaws
pub mod NameLaws
pub mod StageLaws
pub mod RoadLaws
pub mod Fitting
pub mod Joining
pub mod Running
pub mod Journaled
pub mod Lines
pub mod SoundStages
mod Reporting
pub mod Rounds
pub mod Deliveries
pub mod Courses
pub mod Stepping
pub mod Keeping
mod Counting
