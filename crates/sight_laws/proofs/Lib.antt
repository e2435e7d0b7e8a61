pub mod Growing
pub mod Happening
mod Again
