pub mod Grammar
pub mod Drafts
pub mod Listing
pub mod Findings
pub mod Parts
