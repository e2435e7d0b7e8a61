pub mod TextLines
pub mod Schedules
pub mod Roads
pub mod Behind
