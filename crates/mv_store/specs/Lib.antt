pub mod Hits
pub mod Slots
pub mod Index
pub mod Noted
pub mod Keys
pub mod Held
pub mod Changes
pub mod Store
