pub mod Keys
pub mod Pens
pub mod Replay
pub mod Laws
