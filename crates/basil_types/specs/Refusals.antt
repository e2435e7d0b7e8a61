-- What an answer with a fault says.
use Rattle.std.specs.Prelude.{◌≡◌, Option, None, Some, Result, MatchResult}

-- Ok exactly where there is no fault, and otherwise that one
abbrev pub Refuses : {E : Type 0} → Result (Unit {0}) E → Option E → Type 0
Refuses result fault = MatchResult result (λ _. fault ≡ None) (λ e. fault ≡ Some e)
