pub mod Signing
pub mod Plain
