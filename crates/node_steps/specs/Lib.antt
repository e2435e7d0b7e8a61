pub mod Pens
pub mod Envelopes
pub mod Framed
pub mod Holding
pub mod Pendings
pub mod Refusing
pub mod Lists
pub mod Limits
