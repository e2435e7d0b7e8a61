use Rattle.std.proofs.Common.{◌≡◌, ◌++◌, ◌≤◌, drop, length, take}
use Rattle.std.specs.List.{flat_map}
use Rattle.report_lines.specs.Lines.{key_line}
use Rattle.report_lines.proofs.lines.put_pairs.Given as goal

-- what is to be appended yet, and what the text began with
abbrev pub invariant-loop-pair : goal.invariant-loop-pair
invariant-loop-pair l =
    (l.fn.out.items ++ flat_map key_line l.pairs ≡ l.out.items ++ flat_map key_line (drop l.pair-index l.pairs))
    × ((length l.fn.out.items ≤ length l.out.items) × (take (length l.fn.out.items) l.out.items ≡ l.fn.out.items))
