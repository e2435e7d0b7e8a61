use Rattle.std.proofs.Common.{arith, subst, All}
use Rattle.std.proofs.lemmas.Grind.{common_steps}
use Rattle.std.proofs.lemmas.List.Elements.{All-more}
use Rattle.std.proofs.lemmas.List as lists
use Rattle.basil_types.specs.Built.{WriteInRange}
use Rattle.basil_types.proofs.transaction.spell.put_writes.Goals as goal

pub loop-write-preserved : goal.loop-write-preserved
loop-write-preserved c = record {
  spelled = grind (arith, common_steps);
  in_range =
      All-more WriteInRange c.args.writes.now c.loop-write.write-index c.write-item.result
      c.loop-write-test.true c.loop-write.invariant.in_range (subst WriteInRange c.write-item.is c.in_ok-put_write.ensures.in_range);
}

pub returns-clause-in_range : goal.returns-clause-in_range
returns-clause-in_range c =
    subst (All WriteInRange)
    (lists.take_all c.loop-write.write-index c.args.writes.now c.loop-write-test.false) c.loop-write.invariant.in_range
