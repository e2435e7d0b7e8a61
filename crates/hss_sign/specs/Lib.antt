pub mod Verifying
pub mod Numbers
pub mod Keys
pub mod Kept
pub mod Laws
