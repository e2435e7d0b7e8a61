-- What searches among entered transactions tell.
use Rattle.std.specs.Prelude.{ℕ, false, ◌||◌, Option, None, Some, min}
use Rattle.mv_store.specs.declared.hits.Hits.{Hits}

abbrev pub no_hits : Hits
no_hits = record { any = false; committed = None }

-- the lesser of two places, as far as there are
abbrev pub least : Option ℕ → Option ℕ → Option ℕ
least None b = b
least (Some a) None = Some a
least (Some a) (Some b) = Some (min a b)

-- what two searches tell together
abbrev pub joined : Hits → Hits → Hits
joined a b = record { any = a.any || b.any; committed = least a.committed b.committed }
