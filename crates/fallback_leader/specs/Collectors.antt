-- A leader's collector as callers see it.
use Rattle.std.specs.Prelude.{◌-◌, Bool, List, length, take, if◌then◌else◌}
use Rattle.fallback_leader.specs.declared.words.KeptWord.{KeptWord}
use Rattle.fallback_leader.specs.declared.index.Index.{Index}
use Rattle.fallback_leader.specs.Elections.{AreApart}
use Rattle.fallback_leader.specs.Index.{IsIndexOf}

-- the words that it keeps, and those that it kept before the last word, in the order in which they came
pub record CollectorValue : Type 0 where
  pub kept : List KeptWord
  pub before : List KeptWord

-- the words without the last one, where the last call kept it
abbrev pub before : List KeptWord → Bool → List KeptWord
before kept kept_last = if kept_last then take (length kept - 1) kept else kept

-- what holds of the words that it keeps and of their index
pub record IsKept (kept : List KeptWord) (index : Index) : Type 0 where
  pub apart : AreApart kept
  pub indexed : IsIndexOf kept index
