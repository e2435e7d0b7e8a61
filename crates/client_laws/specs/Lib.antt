pub mod Steps
pub mod Signing
pub mod Reading
pub mod Deciding
pub mod Saying
