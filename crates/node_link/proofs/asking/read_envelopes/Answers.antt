-- A piece is fed at each turn, until the envelopes are whole, the rules end the answer, it reaches its limit, or its peer ends it.
use Rattle.std.proofs.Common.{◌<◌, refl, sym, ap, ◌∙◌, take, arith}
use Rattle.node_link.proofs.AskingLaws.{given_at_end, given_at_limit, given_settled, hearing_more, hearing_none, left_read, open_as}
use Rattle.node_link.proofs.asking.read_envelopes.Goals as goal
use Rattle.node_link.proofs.asking.read_envelopes.Goals.{then-loop-left-test+else-not-is_settled, else-loop-left-test}

pub loop-left-init : goal.loop-left-init
loop-left-init g c = hearing_none _ _ _ _ _ c.new-reader.ensures.cluster c.new-reader.ensures.stands refl

pub returns-in_err-got-clause-stays : goal.returns-in_err-got-clause-stays
returns-in_err-got-clause-stays g c s bytes left =
    let at = c.loop-left.invariant.at s bytes left in
    open_as s _ _ at.rest at.opened c.in_err-got.ensures.read.as_before

pub returns-then-got-eq0-clause-given : goal.returns-then-got-eq0-clause-given
returns-then-got-eq0-clause-given g c s bytes left =
    let more : 0 < c.loop-left.left = omega (arith, c.loop-left-test.true) in
    given_at_end _ _ _ _ _ _ _ c.loop-left.invariant _ _ c.into_first.ensures s bytes left _ _ _ more c.in_ok-got.ensures.read.done
    c.in_ok-got.ensures.bytes.0 (ap (λ k. take k c.read.new.buf) c.if-got-eq0.true)
    (c.in_ok-got.ensures.bytes.1 c.if-got-eq0.true (omega arith))

pub returns-then-got-eq0-clause-stays : goal.returns-then-got-eq0-clause-stays
returns-then-got-eq0-clause-stays g c s bytes left =
    let at = c.loop-left.invariant.at s bytes left in
    let l = left_read s at.rest _ _ _ _ at.opened c.in_ok-got.ensures.read.done c.in_ok-got.ensures.bytes.0 in
    open_as s _ _ l.rest l.left refl

pub returns-in_err-feed-clause-stays : goal.returns-in_err-feed-clause-stays
returns-in_err-feed-clause-stays g c s bytes left =
    let at = c.loop-left.invariant.at s bytes left in
    let l = left_read s at.rest _ _ _ _ at.opened c.in_ok-got.ensures.read.done c.in_ok-got.ensures.bytes.0 in
    open_as s _ _ l.rest l.left refl

pub loop-left-preserved : goal.loop-left-preserved
loop-left-preserved g c =
    let h = c.loop-left.invariant in
    let more : 0 < c.loop-left.left = omega (arith, c.loop-left-test.true) in
    hearing_more _ _ _ _ _ _ _ _ _ _ _ _ _ _ _ h more c.min-count.ensures refl c.in_ok-got.ensures.read.done c.in_ok-got.ensures.bound.0
    c.in_ok-got.ensures.bytes.0 refl c.in_ok-feed.ensures.cluster (c.in_ok-feed.ensures.fed h.heard 0 h.stands)
    c.in_ok-got.ensures.cause.kept

pub returns-clause-given : goal.returns-clause-given
returns-clause-given g c s bytes left =
    elim c.loop-left-test.branch [
      | then-loop-left-test+else-not-is_settled w ↦
          given_settled _ _ _ _ _ _ _ c.loop-left.invariant _ _ c.into_first-2.ensures s bytes left
          (sym w.is_settled.ensures ∙ w.if-not-is_settled.false)
      | else-loop-left-test w ↦
          given_at_limit _ _ _ _ _ _ _ c.loop-left.invariant _ _ c.into_first-2.ensures s bytes left (omega (arith, w.loop-left-test))
    ]

pub returns-clause-stays : goal.returns-clause-stays
returns-clause-stays g c s bytes left =
    let at = c.loop-left.invariant.at s bytes left in
    open_as s _ _ at.rest at.opened refl
