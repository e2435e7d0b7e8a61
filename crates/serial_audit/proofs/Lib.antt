pub mod Filters
pub mod Ordering
pub mod Entering
pub mod Expecting
pub mod Walking
pub mod Judging
