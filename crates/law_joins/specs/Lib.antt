pub mod Shown
pub mod Choices
pub mod Books
