use Rattle.std.proofs.Common.{◌≡◌, ℕ, List, [], ◌∷◌, ap, subst, ◌∙◌, arith}
use Rattle.node_steps.specs.Pendings.{IsReady}
use Rattle.replica_core.specs.ElectFronts.{front_for}
use Rattle.replica_core.specs.LogFronts.{pen_at}
use Rattle.replica_core.proofs.LogPlans.{anew_planned}
use Rattle.replica_core.proofs.Sends.{can_sign}
use Rattle.replica_core.proofs.second.plan_anew.Goals as goal

pub returns-clause-answer : goal.returns-clause-answer
returns-clause-answer g c accepts book t entries =
    let spent = g.S.Signer.spent c.args.pen.now in
    let left = g.S.Signer.left_of c.args.pen.now in
    anew_planned c.args.seat.now accepts (g.S.Signer.fixed c.args.pen.now)
    (pen_at book spent left) c.args.from t c.args.id.now c.args.cell c.args.askers.now
    c.args.arrives c.in_ok-askers.askers c.signatures_end_frames.ensures.log_replies entries c.in_ok-askers.ensures c.in_ok-pending.pending
    (can_sign spent left (λ z. c.if-left-eq0.false (c.left-left.ensures ∙ z)))
    (c.in_ok-pending.ensures.words ∙ c.reply_words-words.ensures)
    (c.in_ok-pending.ensures.fronts ∙ ap (λ (f : List ℕ). front_for f c.args.from ∷ []) c.in_ok-frame.ensures)

pub returns-clause-says : goal.returns-clause-says
returns-clause-says g c =
    let left : c.left-left.result ≡ 0 → ⊥ = c.if-left-eq0.false in (
      subst (λ (n : ℕ). IsReady n c.in_ok-pending.pending) c.size.ensures.size c.in_ok-pending.ensures.ready,
      omega (arith, left, c.left-left.ensures),
    )
