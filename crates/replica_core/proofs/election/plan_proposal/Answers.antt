use Rattle.std.proofs.Common.{ℕ, List, map, sym, ap, ◌∙◌}
use Rattle.std.specs.List.{range_with_len}
use Rattle.basil_types.specs.declared.party.Party.{Party}
use Rattle.basil_types.specs.declared.party.Party.TheVariants.{Replica}
use Rattle.basil_types.specs.Shown.{transaction_of}
use Rattle.fallback_leader.specs.Elections.{proposal_value}
use Rattle.frame_writing.specs.Unsigned.{unsigned_decide}
use Rattle.replica_core.specs.ElectFronts.{decide_said, front_for}
use Rattle.replica_core.specs.LogFronts.{pen_at}
use Rattle.replica_core.proofs.LeadPlans.{propose_planned}
use Rattle.replica_core.proofs.Sends.{can_sign}
use Rattle.replica_core.proofs.election.plan_proposal.Goals as goal

pub returns-clause-answer : goal.returns-clause-answer
returns-clause-answer g c accepts book m viewed =
    let spent = g.S.Signer.spent c.args.pen.now in
    let left = g.S.Signer.left_of c.args.pen.now in
    let seat = c.args.seat.now in
    let t = transaction_of c.args.t in
    let q = proposal_value c.args.proposal.now in
    propose_planned seat accepts (g.S.Signer.fixed c.args.pen.now)
    (pen_at book spent left) t m c.args.id.now c.args.view q c.in_ok-pending.pending
    c.signatures_end_frames.ensures.decides (can_sign spent left (λ z. c.if-left-eq0.false (c.left-left.ensures ∙ z)))
    (sym c.requires.named) viewed (c.in_ok-pending.ensures.words ∙ c.proposal-words.ensures)
    (c.in_ok-pending.ensures.fronts
    ∙ ap (λ (f : List ℕ). map (front_for f) c.as_slice-2.result.now) (c.as_slice.ensures.value ∙ c.in_ok-front.ensures)
    ∙ ap (λ (ps : List Party). map (front_for (unsigned_decide (decide_said seat t c.args.view q))) ps)
    (c.as_slice-2.ensures.value ∙ c.in_ok-to.ensures
    ∙ ap (λ (n : ℕ). map (Replica seat.home.shard) (range_with_len 0 n)) c.n.ensures.value))
