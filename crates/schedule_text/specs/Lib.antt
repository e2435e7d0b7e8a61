pub mod Headers
pub mod Kinds
pub mod Lines
pub mod Reading
pub mod Spelling
pub mod Fitting
pub mod Pieces
