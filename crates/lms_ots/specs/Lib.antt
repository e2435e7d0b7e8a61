pub mod Sets
pub mod Digits
pub mod Chains
pub mod Lanes
pub mod Signatures
