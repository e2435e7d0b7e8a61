pub mod Entries
pub mod Shown
pub mod Tables
pub mod Released
pub mod Stored
pub mod Laws
pub mod Kept
pub mod Waiters
