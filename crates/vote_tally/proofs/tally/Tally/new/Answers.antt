use Rattle.std.proofs.Common.{false, replicate, refl, arith}
use Rattle.vote_tally.proofs.Keeping.{unmarked, first_none}
use Rattle.vote_tally.proofs.tally.Tally.new.Goals as goal

pub invariant_of-result : goal.invariant_of-result
invariant_of-result c =
    record {
      faulty = c.n.ensures.in_range.faulty;
      few = omega arith;
      slots_are = refl;
      marks = λ i h. unmarked (replicate 31 false) refl i;
      voters = refl;
      first = first_none c.args.cluster.now;
      counted = c.none.ensures;
    }
