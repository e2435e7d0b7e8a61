pub mod Checking
pub mod Confirming
pub mod Signers
pub mod Auditing
