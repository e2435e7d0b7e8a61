pub mod Signatures
pub mod Batches
