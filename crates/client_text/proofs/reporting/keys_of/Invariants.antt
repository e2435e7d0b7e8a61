-- The keys of the first reads, each once.
use Rattle.std.proofs.Common.{◌≡◌, [], length}
use Rattle.client_text.specs.Reports.{keys_with}
use Rattle.client_text.proofs.reporting.keys_of.Given as goal

abbrev pub invariant-loop-op : goal.invariant-loop-op
invariant-loop-op l = keys_with l.keys.items l.left ≡ keys_with [] l.plan

abbrev pub decreases-loop-op : goal.decreases-loop-op
decreases-loop-op l = length l.left
