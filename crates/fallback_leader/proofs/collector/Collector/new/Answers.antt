use Rattle.std.proofs.Common.{sym, subst}
use Rattle.fallback_leader.specs.Collectors.{IsKept}
use Rattle.fallback_leader.proofs.WordLaws.{apart_none}
use Rattle.fallback_leader.proofs.IndexLaws.{index_none}
use Rattle.fallback_leader.proofs.collector.Collector.new.Goals as goal

pub invariant_of-result : goal.invariant_of-result
invariant_of-result c =
    subst (λ ks. IsKept ks c.new-2.result) (sym c.new.ensures.items)
    (record { apart = apart_none; indexed = index_none c.new-2.result c.new-2.ensures })
