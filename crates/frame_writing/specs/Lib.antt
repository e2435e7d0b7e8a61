pub mod Draft
pub mod Written
pub mod Unsigned
