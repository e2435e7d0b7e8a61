use Rattle.std.proofs.Common.{arith, subst}
use Rattle.std.proofs.lemmas.Grind.{common_steps}
use Rattle.std.proofs.lemmas.List.Elements.{All-more}
use Rattle.basil_types.specs.Built.{ReadInRange}
use Rattle.basil_types.proofs.transaction.spell.put_reads.Goals as goal

pub loop-read-preserved : goal.loop-read-preserved
loop-read-preserved c = record {
  spelled = grind (arith, common_steps);
  in_range =
      All-more ReadInRange c.args.reads.now c.loop-read.read-index c.read-item.result c.loop-read-test.true c.loop-read.invariant.in_range
      (subst ReadInRange c.read-item.is c.in_ok-put_read.ensures.in_range);
}
