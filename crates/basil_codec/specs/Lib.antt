-- What the public clauses of the codec cite, in one place.
pub use Rattle.frame_views.specs.Values
pub use Rattle.frame_views.specs.Spelling
pub use Rattle.frame_views.specs.Fitting
pub use Rattle.frame_views.specs.Frames
pub use Rattle.frame_views.specs.Items
pub use Rattle.frame_views.specs.Stored
pub use Rattle.frame_views.specs.Shown
pub use Rattle.frame_views.specs.Signed
pub use Rattle.frame_views.specs.Carried
pub use Rattle.frame_views.specs.CarriedWalks
pub use Rattle.frame_views.specs.Numbers
pub use Rattle.frame_values.specs.Owned
pub use Rattle.frame_values.specs.Parts
pub use Rattle.frame_writing.specs.Unsigned
pub use Rattle.frame_fitting.specs.Lengths
pub use Rattle.frame_fitting.specs.Wider
