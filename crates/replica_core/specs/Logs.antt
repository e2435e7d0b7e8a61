-- What is logged, as callers see it.
use Rattle.std.specs.Prelude.{ℕ, List, map}
use Rattle.indexmap.specs.IndexMap.{IndexMap}
use Rattle.replica_core.specs.declared.log.Log.{Log}
use Rattle.replica_core.specs.Replicas.{LoggedEntry}

-- in the order in which the transactions were logged first, and for how many more there is room
pub record LoggedValue : Type 0 where
  pub entries : List LoggedEntry
  pub room : ℕ

-- what is logged of the transaction with this id
abbrev pub logged_as : List ℕ → Log → LoggedEntry
logged_as id l = record { id = id; cell = l.cell; reply = l.reply; askers = (l.askers).items }

abbrev pub logged_in : {S : Type 0} → IndexMap (List ℕ) Log S → List LoggedEntry
logged_in m = map (λ e. logged_as e.0 e.1) m.entries
