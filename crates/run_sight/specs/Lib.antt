pub mod Keeping
pub mod Sights
-- what public clauses cite of lower crates
pub use Rattle.cluster_run.specs.Parts
pub use Rattle.cluster_run.specs.States
pub use Rattle.cluster_run.specs.Telling
