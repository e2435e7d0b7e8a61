pub mod Journal
pub mod Found
pub mod Steps
pub mod Laws
pub mod Stopping
