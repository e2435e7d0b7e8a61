pub mod Below
pub mod Growing
pub mod Real
