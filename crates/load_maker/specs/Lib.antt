pub mod Draws
pub mod Loads
pub mod Laws
