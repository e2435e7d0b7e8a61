pub mod Sets
pub mod Randomizer
pub mod Tree
pub mod Filled
pub mod Signing
pub mod Verifying
pub mod Numbers
pub mod Laws
