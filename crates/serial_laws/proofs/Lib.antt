pub mod Sanity
pub mod Forms
pub mod Committing
pub mod Steps
pub mod Serials
pub mod Listings
pub mod ExampleRun
