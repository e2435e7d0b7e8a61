-- An envelope more was found, and at last the rest.
use Rattle.node_link.proofs.FindingLaws.{end_more, found_more, found_all}
use Rattle.node_link.proofs.found.find.Goals as goal

pub loop-lent-preserved : goal.loop-lent-preserved
loop-lent-preserved c =
    let given = c.in-Ok.ensures.gives in
    record {
      found = rw c.in_ok-keep-in-Ok.ensures (found_more _ _ _ _ _ _ c.loop-lent.invariant.found given);
      last = end_more _ _ _ _ _ c.loop-lent.invariant.last given;
    }

pub returns-in-Err : goal.returns-in-Err
returns-in-Err c =
    found_all _ _ _ _ c.loop-lent.invariant.found c.loop-lent.invariant.last c.in-Err.ensures.gives c.left_of-left.ensures
