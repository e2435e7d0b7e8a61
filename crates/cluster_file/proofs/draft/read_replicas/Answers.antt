use Rattle.std.proofs.Common.{sym, ◌∙◌, arith}
use Rattle.std.specs.declared.alloc.Global.{Global}
use Rattle.json.specs.Value.{value_view}
use Rattle.json.specs.declared.value.Value.{Value}
use Rattle.cluster_file.specs.Grammar.{replica_in}
use Rattle.cluster_file.proofs.EachLaws.{each-map, fails, ends}
use Rattle.cluster_file.proofs.draft.read_replicas.Goals as goal

pub returns-in-None : goal.returns-in-None
returns-in-None c =
    sym (each-map replica_in value_view c.args.items.now
    ∙ fails (λ (item : Value Global). replica_in (value_view item)) c.args.items.now c.loop-item.replicas.items
    c.loop-item.item-index c.item-item.result (omega arith) c.item-item.is (sym c.in-None.ensures) c.loop-item.invariant)

pub returns : goal.returns
returns c =
    sym (each-map replica_in value_view c.args.items.now
    ∙ ends (λ (item : Value Global). replica_in (value_view item)) c.args.items.now c.loop-item.replicas.items
    c.loop-item.item-index (omega arith) c.loop-item.invariant)
