use Rattle.std.proofs.Common.{◌≡◌}
use Rattle.std.specs.List.{list_all}
use Rattle.basil_types.specs.Shown.{transaction_of, reads_left}
use Rattle.basil_types.specs.Version.{below}
use Rattle.audit_text.specs.Drafts.{reads_below}
use Rattle.audit_text.proofs.draft.reads_below.Given as goal

abbrev pub invariant-loop-item : goal.invariant-loop-item
invariant-loop-item l =
    reads_below (transaction_of l.fn.t) ≡ list_all (λ r. below r.version l.version) (reads_left l.item-iterator)
