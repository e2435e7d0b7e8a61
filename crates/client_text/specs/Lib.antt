pub mod Ops
pub mod Reports
pub mod Handing
pub mod Certifying
