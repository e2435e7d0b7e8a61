pub mod LineEnds
pub mod Settling
pub mod Behind
