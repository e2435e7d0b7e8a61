-- What a decide frame's words name.
use Rattle.std.specs.Prelude.{ℕ, List, length}
use Rattle.basil_types.specs.declared.party.Decision.{Decision}
use Rattle.frame_views.specs.Values.{WordValue}
use Rattle.fallback_leader.specs.Elections.{naming_by}

-- how many words there are, and how many of them name a decision
pub record NamingValue : Type 0 where
  pub words : ℕ
  pub agreeing : ℕ

abbrev pub naming_of : List WordValue → Decision → NamingValue
naming_of words decision = record { words = length words; agreeing = naming_by (λ w. w.decision) decision words }
