pub mod Owned
pub mod Parts
