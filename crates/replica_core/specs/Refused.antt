-- Frames whose transaction isn't refused.
use Rattle.std.specs.Prelude.{◌≡◌, None}
use Rattle.frame_views.specs.Values.{MessageValue}
use Rattle.replica_core.specs.Refusals.{bad_transaction}

-- the transaction that the frame is about, if any, has a good form
abbrev pub IsWellFormed : MessageValue → Type 0
IsWellFormed m = bad_transaction m ≡ None
