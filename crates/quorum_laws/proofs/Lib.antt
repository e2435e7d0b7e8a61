pub mod Counts
pub mod Quorums
mod Masks
mod LawProofs
pub mod ListSets
