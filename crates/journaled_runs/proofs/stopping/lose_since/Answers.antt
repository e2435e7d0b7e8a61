use Rattle.std.proofs.Common.{◌≡◌, ◌∙◌, ◌+◌, arith, sym, subst}
use Rattle.std.specs.List.{range_with_len}
use Rattle.std.specs.Prelude.{◌-◌, length}
use Rattle.journaled_runs.specs.Journaling.{entered_since}
use Rattle.journaled_runs.specs.Stopping.{Loses}
use Rattle.journaled_runs.proofs.StopLaws.{loses_more, loses_not, next_entered}
use Rattle.journaled_runs.proofs.stopping.lose_since.Goals as goal

pub returns-in-Err-clause-lost : goal.returns-in-Err-clause-lost
returns-in-Err-clause-lost g c = λ s st shows.
    let was = c.loop-earlier.invariant.lost s st shows in
    loses_not g.K.Keys.Verifier g.K.Pen.Signer s (entered_since c.args.before st) (c.loop-earlier.earlier + 1) st was.0
    c.step.new.self.core c.in-Err.fault (c.in-Err.ensures.happens s was.0 was.2)

pub loop-earlier-preserved : goal.loop-earlier-preserved
loop-earlier-preserved g c = record {
  going = c.in-Ok.ensures.ended;
  kit = c.in-Ok.ensures.kit ∙ c.loop-earlier.invariant.kit;
  within = omega (arith, c.loop-earlier-test.true);
  lost = λ s st shows.
      let was = c.loop-earlier.invariant.lost s st shows in
      let h = c.in-Ok.ensures.happens s was.0 was.2 in
      let at = c.loop-earlier.earlier in (
        h.0,
        subst (λ ms. Loses s ms st h.0) (sym (next_entered c.args.before at c.loop-earlier.auto.earlier))
            (loses_more c.books_follow_deliveries.ensures s (range_with_len (c.args.before + 1) (at - c.args.before)) (at + 1) st was.0 h.0
            was.1 h.1),
        h.2,
      );
}

pub returns-clause-lost : goal.returns-clause-lost
returns-clause-lost g c = λ s st shows.
    let was = c.loop-earlier.invariant.lost s st shows in
    let all : c.loop-earlier.earlier - c.args.before ≡ length st.pool - c.args.before =
    omega (arith, c.messages-earlier-end.ensures s st shows, c.loop-earlier-test.false, c.loop-earlier.invariant.within) in
    (was.0, subst (λ n. Loses s (range_with_len (c.args.before + 1) n) st was.0) all was.1, was.2)
