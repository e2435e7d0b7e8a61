-- The lines of a report.
use Rattle.std.specs.Prelude.{ℕ, List, [], ◌∷◌, ◌++◌, codes, decimal, Option, Some, None, if◌then◌else◌}
use Rattle.basil_types.specs.declared.party.Decision.{Decision}
use Rattle.basil_types.specs.declared.party.Decision.TheVariants.{Commit, Abort}
use Rattle.schedule_text.specs.Spelling.{key_token, value_token}
use Rattle.serial_audit.specs.declared.maps.Pair.{Pair}

-- what became of a transaction
abbrev pub fate_token : Option Decision → List ℕ
fate_token (Some Commit) = codes "commit"
fate_token (Some Abort) = codes "abort"
fate_token None = codes "open"

-- `tx NAME commit`, `tx NAME abort` or `tx NAME open`
abbrev pub fate_line : (name : List ℕ) → Option Decision → List ℕ
fate_line name fate = codes "tx " ++ name ++ 32 ∷ fate_token fate ++ 10 ∷ []

-- `key KEY VALUE`; a deleted key has no line
abbrev pub key_line : Pair → List ℕ
key_line p = if p.deleted then [] else codes "key " ++ key_token p.key ++ 32 ∷ value_token p.value ++ 10 ∷ []

-- `end N`, the number of messages
abbrev pub end_line : ℕ → List ℕ
end_line messages = codes "end " ++ decimal messages ++ 10 ∷ []
