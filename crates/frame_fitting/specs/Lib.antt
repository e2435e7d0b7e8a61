pub mod Lengths
pub mod Room
pub mod Known
pub mod Wider
