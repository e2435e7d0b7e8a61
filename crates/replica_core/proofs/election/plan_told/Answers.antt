use Rattle.std.proofs.Common.{ℕ, List, map, ap, ◌∙◌}
use Rattle.basil_types.specs.declared.party.Party.{Party}
use Rattle.frame_writing.specs.Unsigned.{unsigned_log_reply}
use Rattle.replica_core.specs.ElectFronts.{front_for}
use Rattle.replica_core.specs.LogFronts.{pen_at, said_reply}
use Rattle.replica_core.proofs.LogPlans.{told_planned}
use Rattle.replica_core.proofs.Sends.{can_sign}
use Rattle.replica_core.proofs.election.plan_told.Goals as goal

pub returns-clause-answer : goal.returns-clause-answer
returns-clause-answer g c accepts book t m l entries named celled asks =
    let spent = g.S.Signer.spent c.args.pen.now in
    let left = g.S.Signer.left_of c.args.pen.now in
    let seat = c.args.seat.now in
    told_planned seat accepts (g.S.Signer.fixed c.args.pen.now)
    (pen_at book spent left) t m l c.args.id.now c.args.cell c.args.askers.now c.args.arrives c.in_ok-askers.askers c.in_ok-pending.pending
    c.signatures_end_frames.ensures.log_replies (can_sign spent left (λ z. c.if-left-eq0.false (c.left-left.ensures ∙ z)))
    entries named celled asks c.in_ok-askers.ensures (c.in_ok-pending.ensures.words ∙ c.reply_words-words.ensures)
    (c.in_ok-pending.ensures.fronts
    ∙ ap (λ (f : List ℕ). map (front_for f) c.as_slice-2.result.now) (c.as_slice.ensures.value ∙ c.in_ok-front.ensures)
    ∙ ap (λ (ps : List Party). map (front_for (unsigned_log_reply (said_reply seat c.args.id.now c.args.cell))) ps)
    (c.as_slice-2.ensures.value ∙ c.in_ok-to.ensures))
