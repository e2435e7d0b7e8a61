pub mod Steps
pub mod Refusals
pub mod Addressing
pub mod Sending
