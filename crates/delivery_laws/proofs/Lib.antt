pub mod Putting
pub mod Staying
mod Starting
mod Taking
