-- The numbers of faults.
use Rattle.std.specs.Prelude.{ℕ}
use Rattle.frame_views.specs.declared.fault.BadFrame.{BadFrame}
use Rattle.frame_views.specs.declared.fault.BadFrame.TheVariants.{Short, Kind, Length, Order, Range, Trailing}

abbrev pub number_of : BadFrame → ℕ
number_of (Short offset) = 1
number_of Kind = 2
number_of Length = 3
number_of (Order offset) = 4
number_of (Range offset) = 5
number_of (Trailing offset) = 6
