pub mod Sizes
pub mod Standings
pub mod Refusing
pub mod Handling
pub mod Asking
