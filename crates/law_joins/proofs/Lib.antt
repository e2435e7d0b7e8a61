pub mod Proving
pub mod Taking
pub mod Forming
pub mod Voting
pub mod Listing
pub mod Releasing
