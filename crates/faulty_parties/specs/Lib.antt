pub mod Unsaid
pub mod Lies
pub mod Pens
pub mod Fronts
pub mod Hearing
pub mod Heard
pub mod Tallies
