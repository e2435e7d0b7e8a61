-- The election words of a leader, as callers see them.
use Rattle.std.specs.Prelude.{Bool, List, Option, Some, None, All, ◌<◌, unwrap_or, if◌then◌else◌}
use Rattle.frame_views.specs.Fitting.{IsSignature}
use Rattle.frame_values.specs.declared.owned.parts.ElectPart.{ElectPart}
use Rattle.fallback_leader.specs.declared.words.KeptWord.{KeptWord}
use Rattle.fallback_leader.specs.Collectors.{CollectorValue}

-- the words that are kept, and those that will be, where one more is held back
pub record LeadingValue : Type 0 where
  pub kept : List KeptWord
  pub next : Option (List KeptWord)

-- without the word that is held back
abbrev pub kept_by : CollectorValue → Bool → List KeptWord
kept_by c held_back = if held_back then c.before else c.kept

abbrev pub next_by : CollectorValue → Bool → Option (List KeptWord)
next_by c held_back = if held_back then Some c.kept else None

-- once the word that is held back is taken
abbrev pub kept_next : LeadingValue → List KeptWord
kept_next l = unwrap_or l.next l.kept

-- a word may stand in a frame
pub record IsWritten (w : ElectPart) : Type 0 where
  pub replica : w.replica < 256
  pub signature : IsSignature w.signature

abbrev pub AllWritten : List KeptWord → Type 0
AllWritten kept = All (λ k. IsWritten k.word) kept

pub record AreWritten (c : CollectorValue) : Type 0 where
  pub kept : AllWritten c.kept
  pub before : AllWritten c.before
