pub mod Talking
pub mod Running
pub mod Stages
pub mod Having
