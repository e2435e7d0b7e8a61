-- Sources, sinks and links in memory, as contracts see them.
use Rattle.std.specs.Prelude.{ℕ, ◌-◌, List, length, Bool, ◌||◌, nat_lt, if◌then◌else◌}
use Rattle.basil_types.specs.Causes.{one_more, is_next, no_faults}
use Rattle.basil_types.specs.Links.{LinkState}

-- the calls that fail, by their numbers from 1; how many were made, and how many failed
pub record CallCounts : Type 0 where
  pub failing : List ℕ
  pub made : ℕ
  pub faults : ℕ

-- before the first call
abbrev pub uncalled : List ℕ → CallCounts
uncalled failing = record { failing = failing; made = 0; faults = no_faults }

-- whether the next call is one of those that fail
abbrev pub fails_next : CallCounts → Bool
fails_next calls = is_next calls.made calls.failing

-- a call more was made, and it failed or didn't
abbrev pub counted : Bool → CallCounts → CallCounts
counted failed calls = record calls {
  made = one_more calls.made;
  faults = if failed then one_more calls.faults else calls.faults;
}

-- the bytes left, given at most a piece at a time
pub record SourceState : Type 0 where
  pub left : List ℕ
  pub piece : ℕ
  pub calls : CallCounts

-- the bytes taken, at most room of them
pub record SinkState : Type 0 where
  pub taken : List ℕ
  pub room : ℕ
  pub calls : CallCounts

-- whether a write of the piece fails: the call is listed, or the piece would pass the room
abbrev pub write_fails : SinkState → List ℕ → Bool
write_fails s piece = fails_next s.calls || nat_lt (s.room - length s.taken) (length piece)

-- links of which the carries that are listed, from 1, change a bit
pub record MemLinksState : Type 0 where
  pub links : LinkState
  pub changed : List ℕ
  pub calls : CallCounts

-- the same where no call fails
pub record SureLinksState : Type 0 where
  pub links : LinkState
  pub changed : List ℕ
