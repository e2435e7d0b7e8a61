pub mod Form
pub mod Places
pub mod Conflicts
pub mod Merging
