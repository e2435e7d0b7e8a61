pub mod Entries
pub mod Journals
pub mod Replicas
pub mod Opening
pub mod Retracing
pub mod Steps
pub mod Laws
