-- Outcomes of ids.
use Rattle.std.proofs.Common.{◌≡◌, ℕ, List, false, Option, None, Some, refl, sym, ap, ◌∙◌}
use Rattle.std.specs.Prelude.{is_some, option_map}
use Rattle.std.specs.Option.{option_and_then, ForSome}
use Rattle.txn_table.specs.Entries.{EntryValue, OutcomeValue, decision_of}
use Rattle.txn_table.specs.Tables.{entry_with}
use Rattle.replica_core.specs.Known.{outcome_with}
use Rattle.replica_core.specs.Placing.{IsOpen}

nothing : (o : Option OutcomeValue) → is_some o ≡ false → o ≡ None
nothing None e = refl
nothing (Some x) e = absurd cc

pub no_outcome : (es : List EntryValue) (x : List ℕ) → is_some (outcome_with es x) ≡ false → outcome_with es x ≡ None
no_outcome es x e = nothing (outcome_with es x) e

decided_none : (e : EntryValue) → e.outcome ≡ None → decision_of e ≡ None
decided_none e h = ap (λ (o : Option OutcomeValue). option_map (λ (o : OutcomeValue). o.decision) o) h

pub undecided_with : (es : List EntryValue) (x : List ℕ) → outcome_with es x ≡ None → ForSome (entry_with es x) IsOpen
undecided_with es x n e h = decided_none e (sym (ap (option_and_then (λ (e : EntryValue). e.outcome)) h) ∙ n)
