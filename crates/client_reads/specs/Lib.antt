pub mod Faults
pub mod Versions
pub mod Replies
pub mod Choosing
pub mod Laws
-- what public clauses cite of lower crates
pub use Rattle.basil_types.specs.Setting
pub use Rattle.frame_views.specs.Values
pub use Rattle.frame_views.specs.Fitting
pub use Rattle.frame_views.specs.Shown
pub use Rattle.certificates.specs.Accepted
