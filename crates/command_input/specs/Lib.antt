pub mod Ranges
pub mod Commands
pub mod Files
pub mod Reading
pub mod Inputs
