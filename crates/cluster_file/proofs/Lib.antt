pub mod Digits
pub mod Objects
pub mod EachLaws
pub mod SeatLaws
pub mod BelowLaws
pub mod AddressLaws
pub mod ListingLaws
pub mod TextLaws
