pub mod Trees
pub mod Filled
pub mod Signatures
pub mod Batches
pub mod Sealed
pub mod Places
pub mod Parting
pub mod Laws
