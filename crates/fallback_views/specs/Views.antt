-- Reported views, and the view that they raise a replica to.
use Rattle.std.specs.Prelude.{ℕ, ◌+◌, ◌-◌, ◌^◌, All, List, Option, max}
use Rattle.std.specs.Prelude.{min, nat_lt, nat_le, count_by, filter, unwrap_or}
use Rattle.std.specs.List.{reduce}
use Rattle.std.specs.Option.{option_map_or}
use Rattle.basil_types.specs.Limits.{IsU64}
use Rattle.quorum_laws.specs.Numbers.{catch_up, view_over}

-- how many reports count for a view: those of this view and of later ones
abbrev pub count : List ℕ → ℕ → ℕ
count views view = count_by (nat_le view) views

-- the reported views for which this many reports count
abbrev pub reached_by : ℕ → List ℕ → List ℕ
reached_by many views = filter (λ view. nat_le many (count views view)) views

-- the greatest number of a list
abbrev pub greatest : List ℕ → Option ℕ
greatest = reduce max

-- the view after one; the greatest of 64 bits has none
abbrev pub next : ℕ → ℕ
next view = min (view + 1) (2 ^ 64 - 1)

-- the greatest of these views above the current one
abbrev pub caught_up : List ℕ → ℕ → ℕ
caught_up views current = unwrap_or (greatest (filter (nat_lt current) views)) current

-- the view after one that is over, or one to catch up with, or the current one
abbrev pub raised : ℕ → List ℕ → ℕ → ℕ
raised f views current =
    option_map_or (λ over. max (next over) current) (greatest (reached_by (view_over f) views))
    (caught_up (reached_by (catch_up f) views) current)

-- a view of 64 bits
abbrev pub IsView : ℕ → Type 0
IsView view = IsU64 view

-- what views of 64 bits raise one of 64 bits to has 64 bits
abbrev pub RaisedIsView : Type 0
RaisedIsView =
    (f : ℕ) (views : List ℕ) (current : ℕ) → All IsView views → IsView current → IsView (raised f views current)
