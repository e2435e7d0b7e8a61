use Rattle.json.specs.Value.{value_view}
use Rattle.cluster_file.specs.Grammar.{client_in}
use Rattle.cluster_file.proofs.EachLaws.{Reads}
use Rattle.cluster_file.proofs.draft.read_clients.Given as goal

abbrev pub invariant-loop-item : goal.invariant-loop-item
invariant-loop-item l = Reads (λ item. client_in (value_view item)) l.items l.clients.items l.item-index
