pub mod Complaints
pub mod Tokens
pub mod Fields
pub mod Parties
pub mod Limits
pub mod TextLines
pub mod Refusals
