-- What became of all transactions of a run, in numbers.
use Rattle.std.specs.Prelude.{ℕ, List, [], ◌∷◌, ◌++◌, Bool, true, false, codes}
use Rattle.std.specs.Prelude.{decimal, filter, length, map, Option, Some, None}
use Rattle.std.specs.List.{range_with_len}
use Rattle.basil_types.specs.declared.party.Decision.{Decision}
use Rattle.basil_types.specs.declared.party.Decision.TheVariants.{Commit, Abort}
use Rattle.schedule_replay.specs.Replays.{ReplayValue}
use Rattle.report_lines.specs.Lines.{end_line}
use Rattle.schedule_replay.specs.Reports.{decided}

abbrev pub is_same_fate : Option Decision → Option Decision → Bool
is_same_fate (Some Commit) (Some Commit) = true
is_same_fate (Some Abort) (Some Abort) = true
is_same_fate None None = true
is_same_fate fate other = false

-- what became of each begun transaction
abbrev pub fates : ReplayValue → List (Option Decision)
fates r = map (decided r.state) (range_with_len 0 (length r.names.begun))

-- of how many this became
abbrev pub total_of : (fate : Option Decision) → ReplayValue → ℕ
total_of fate r = length (filter (is_same_fate fate) (fates r))

-- `WORD N`, how many there are
abbrev pub total_line : (token : List ℕ) → (total : ℕ) → List ℕ
total_line token total = token ++ 32 ∷ decimal total ++ 10 ∷ []

-- `commit C`, `abort A`, `open O`, and `end M`, the number of messages
abbrev pub totals : ReplayValue → List ℕ
totals r =
    total_line (codes "commit") (total_of (Some Commit) r)
    ++ total_line (codes "abort") (total_of (Some Abort) r)
    ++ total_line (codes "open") (total_of None r)
    ++ end_line (length r.state.pool)
