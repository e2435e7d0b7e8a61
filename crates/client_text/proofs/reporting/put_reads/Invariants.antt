-- The lines of the first keys.
use Rattle.std.proofs.Common.{◌≡◌, ◌++◌, length}
use Rattle.std.specs.List.{flat_map}
use Rattle.client_core.specs.Shown.{own, ShowsClient}
use Rattle.client_core.specs.Clients.{ClientValue}
use Rattle.client_text.specs.Reports.{read_line}
use Rattle.client_text.proofs.reporting.put_reads.Given as goal

abbrev pub invariant-loop-first : goal.invariant-loop-first
invariant-loop-first g l =
    (v : ClientValue) → ShowsClient l.client v →
    l.out.items ++ flat_map (read_line (own l.client) l.slot v) l.left
    ≡ l.initial.out.items ++ flat_map (read_line (own l.client) l.slot v) l.keys

abbrev pub decreases-loop-first : goal.decreases-loop-first
decreases-loop-first g l = length l.left
