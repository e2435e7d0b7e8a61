pub mod Cutting
pub mod Digits
pub mod Unescaping
pub mod LineCuts
