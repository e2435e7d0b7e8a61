pub mod Maps
pub mod Strays
pub mod Verdicts
pub mod Laws
pub mod Parts
pub mod Writers
