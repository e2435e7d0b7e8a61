pub mod Book
pub mod Verdict
pub mod Crossings
pub mod Laws
pub mod Standing
