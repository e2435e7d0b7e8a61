pub mod Elections
pub mod Index
pub mod Deciding
pub mod Laws
pub mod Collectors
