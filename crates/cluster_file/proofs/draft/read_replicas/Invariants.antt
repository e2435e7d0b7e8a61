use Rattle.json.specs.Value.{value_view}
use Rattle.cluster_file.specs.Grammar.{replica_in}
use Rattle.cluster_file.proofs.EachLaws.{Reads}
use Rattle.cluster_file.proofs.draft.read_replicas.Given as goal

abbrev pub invariant-loop-item : goal.invariant-loop-item
invariant-loop-item l = Reads (λ item. replica_in (value_view item)) l.items l.replicas.items l.item-index
