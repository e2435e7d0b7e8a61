-- What was read is answered at each turn; and how a connection ends: by its peer, by the rules, or by a call that fails.
use Rattle.std.proofs.Common.{◌+◌, ◌≤◌, refl, ap, ◌∙◌, take, length, arith}
use Rattle.node_link.proofs.AnsweringLaws.{at_err}
use Rattle.node_link.proofs.TalkingLaws.{talking_none, talking_more, fed_by, has_room, few_frames, talked_to_end, talked_by_rules}
use Rattle.node_link.proofs.TalkingLaws.{talked_until_read, talked_until_fed, talked_until_answered}
use Rattle.node_link.proofs.connection.talk.Goals as goal

pub loop-alloc-init : goal.loop-alloc-init
loop-alloc-init g c = talking_none _ _ _ _ _ _ _ c.new-reader.ensures.cluster c.new-reader.ensures.stands

pub returns-in_err-count-clause-some : goal.returns-in_err-count-clause-some
returns-in_err-count-clause-some g c state whole s rest start =
    at_err _ _ _ c.from_residual.ensures.1
    (talked_until_read _ _ _ _ _ _ _ _ _ _ _ _ _ _ _ state whole s rest start c.loop-alloc.invariant
    c.in_err-count.ensures.read.as_before refl)

pub returns-then-count-eq0-clause-all : goal.returns-then-count-eq0-clause-all
returns-then-count-eq0-clause-all g c state whole s rest start =
    (talked_to_end _ _ _ _ _ _ _ _ _ _ _ _ _ _ _ state whole s rest start c.loop-alloc.invariant c.in_ok-count.ensures.read.done
    c.in_ok-count.ensures.bytes.0 (c.in_ok-count.ensures.bytes.1 c.if-count-eq0.true (omega arith))
    (ap (λ k. take k c.read.new.buf) c.if-count-eq0.true)).served

pub returns-then-count-eq0-clause-counted : goal.returns-then-count-eq0-clause-counted
returns-then-count-eq0-clause-counted g c state whole s rest start =
    (talked_to_end _ _ _ _ _ _ _ _ _ _ _ _ _ _ _ state whole s rest start c.loop-alloc.invariant c.in_ok-count.ensures.read.done
    c.in_ok-count.ensures.bytes.0 (c.in_ok-count.ensures.bytes.1 c.if-count-eq0.true (omega arith))
    (ap (λ k. take k c.read.new.buf) c.if-count-eq0.true)).counted

pub returns-then-count-eq0-clause-few : goal.returns-then-count-eq0-clause-few
returns-then-count-eq0-clause-few g c = few_frames _ _ _ _ _ _ _ _ _ _ _ _ c.loop-alloc.invariant

pub returns-in_err-feed-clause-some : goal.returns-in_err-feed-clause-some
returns-in_err-feed-clause-some g c state whole s rest start =
    at_err _ _ _ c.from_residual-in_err-feed.ensures.1
    (talked_until_fed _ _ _ _ _ _ _ _ _ _ _ _ _ _ _ _ _ state whole s rest start c.loop-alloc.invariant c.in_ok-count.ensures.read.done
    c.in_ok-count.ensures.bytes.0 refl)

pub answer_waiting-requires : goal.answer_waiting-requires
answer_waiting-requires g c =
    let fed = fed_by _ _ _ _ (c.in_ok-feed.ensures.cluster ∙ c.loop-alloc.invariant.cluster)
    (c.in_ok-feed.ensures.fed _ _ c.loop-alloc.invariant.stands) in
    omega (arith, c.requires, has_room _ _ _ _ _ _ _ _ _ _ _ _ _ _ c.loop-alloc.invariant fed)

pub loop-alloc-preserved : goal.loop-alloc-preserved
loop-alloc-preserved g c =
    talking_more _ _ _ _ _ _ _ _ _ _ _ _ _ _ _ _ _ _ _ _ _ _ c.loop-alloc.invariant
    (fed_by _ _ _ _ (c.in_ok-feed.ensures.cluster ∙ c.loop-alloc.invariant.cluster)
    (c.in_ok-feed.ensures.fed _ _ c.loop-alloc.invariant.stands))
    c.in_ok-count.ensures.read.done c.in_ok-count.ensures.bytes.0 c.in_ok-answer_waiting.ensures.taken
    c.in_ok-answer_waiting.ensures.counted c.in_ok-answer_waiting.ensures.own
    (c.in_ok-answer_waiting.ensures.cause.kept ∙ c.in_ok-count.ensures.cause.kept)
    (λ state s at. c.in_ok-answer_waiting.ensures.all state s at)

pub returns-in_err-answer_waiting-clause-some : goal.returns-in_err-answer_waiting-clause-some
returns-in_err-answer_waiting-clause-some g c state whole s rest start =
    at_err _ _ _ c.from_residual-in_err-answer_waiting.ensures.1
    (talked_until_answered _ _ _ _ _ _ _ _ _ _ _ _ _ _ _ _ _ _ _ _ _ _ state whole s rest start c.loop-alloc.invariant
    (fed_by _ _ _ _ (c.in_ok-feed.ensures.cluster ∙ c.loop-alloc.invariant.cluster)
    (c.in_ok-feed.ensures.fed _ _ c.loop-alloc.invariant.stands))
    c.in_ok-count.ensures.read.done c.in_ok-count.ensures.bytes.0 c.in_err-answer_waiting.ensures.later refl
    (λ state s at. c.in_err-answer_waiting.ensures.some state s at))

pub returns-clause-all : goal.returns-clause-all
returns-clause-all g c state whole s rest start =
    (talked_by_rules _ _ _ _ _ _ _ _ _ _ _ _ state whole s _ _ rest start c.loop-alloc.invariant c.ended.ensures.told c.is_none.ensures
    c.loop-alloc-test.false).served

pub returns-clause-counted : goal.returns-clause-counted
returns-clause-counted g c state whole s rest start =
    (talked_by_rules _ _ _ _ _ _ _ _ _ _ _ _ state whole s _ _ rest start c.loop-alloc.invariant c.ended.ensures.told c.is_none.ensures
    c.loop-alloc-test.false).counted

pub returns-clause-few : goal.returns-clause-few
returns-clause-few g c = few_frames _ _ _ _ _ _ _ _ _ _ _ _ c.loop-alloc.invariant

pub returns-in_err-count-clause-few : goal.returns-in_err-count-clause-few
returns-in_err-count-clause-few g c = few_frames _ _ _ _ _ _ _ _ _ _ _ _ c.loop-alloc.invariant

pub returns-in_err-feed-clause-few : goal.returns-in_err-feed-clause-few
returns-in_err-feed-clause-few g c = few_frames _ _ _ _ _ _ _ _ _ _ _ _ c.loop-alloc.invariant

pub returns-in_err-answer_waiting-clause-few : goal.returns-in_err-answer_waiting-clause-few
returns-in_err-answer_waiting-clause-few g c =
    let fed = fed_by _ _ _ _ (c.in_ok-feed.ensures.cluster ∙ c.loop-alloc.invariant.cluster)
    (c.in_ok-feed.ensures.fed _ _ c.loop-alloc.invariant.stands) in
    let room : c.loop-alloc.frames + length c.feed.new.self.waiting ≤ c.args.frames.now + 16777216 =
    has_room _ _ _ _ _ _ _ _ _ _ _ _ _ _ c.loop-alloc.invariant fed in
    omega (arith, room, c.in_err-answer_waiting.ensures.few)
