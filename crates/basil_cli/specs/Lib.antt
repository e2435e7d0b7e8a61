pub mod Output
pub mod Reading
pub mod Linked
pub mod ScheduleEnds
