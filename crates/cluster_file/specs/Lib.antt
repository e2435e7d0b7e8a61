pub mod Values
pub mod Members
pub mod Grammar
pub mod Seats
pub mod Faults
pub mod Listing
pub mod Text
