pub mod Journaling
pub mod Shown
pub mod Handing
pub mod Beginning
pub mod Stopping
pub mod Owners
