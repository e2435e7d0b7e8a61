-- Where faults lie in a frame.
use Rattle.std.specs.Prelude.{ℕ, ◌-◌}
use Rattle.basil_types.specs.declared.reading.Fault.{Fault}
use Rattle.basil_types.specs.declared.reading.Fault.TheVariants as left_at
use Rattle.frame_views.specs.declared.fault.BadFrame.{BadFrame}
use Rattle.frame_views.specs.declared.fault.BadFrame.TheVariants as offset

-- the offset, in len bytes, of the field at whose beginning left bytes are left
abbrev pub placed : ℕ → Fault → BadFrame
placed len (left_at.Short left) = offset.Short (len - left)
placed len (left_at.Range left) = offset.Range (len - left)
placed len (left_at.Order left) = offset.Order (len - left)
