use Rattle.std.proofs.Common.{rules, ℕ, ◌<◌, List, [], ◌∷◌, None, Ok, sym, ap, ◌∙◌}
use Rattle.basil_types.specs.declared.party.Party.TheVariants.{Replica}
use Rattle.decision_log.specs.declared.cell.LogCell.{LogCell}
use Rattle.basil_types.specs.Shown.{transaction_of}
use Rattle.frame_writing.specs.Unsigned.{unsigned_elect}
use Rattle.txn_meta.specs.Places.{leader_of}
use Rattle.replica_core.specs.declared.logging.LogWork.{LogWork}
use Rattle.replica_core.specs.declared.logging.Said.TheVariants.{Entered}
use Rattle.replica_core.specs.LogWorks.{perform_log}
use Rattle.replica_core.specs.Telling.{begun}
use Rattle.replica_core.specs.ElectFronts.{front_for, elect_said}
use Rattle.replica_core.specs.Known.{asked_by}
use Rattle.replica_core.specs.LogFronts.{pen_at}
use Rattle.replica_core.specs.Logs.{logged_as}
use Rattle.replica_core.proofs.LogPlans.{enter_planned}
use Rattle.replica_core.proofs.Sends.{can_sign, is_raised}
use Rattle.replica_core.proofs.invoke.plan_enter.Goals as goal

pub returns-clause-answer : goal.returns-clause-answer
returns-clause-answer g c accepts book =
    let spent = g.S.Signer.spent c.args.pen.now in
    let left = g.S.Signer.left_of c.args.pen.now in
    let seat = c.args.seat.now in
    let log = c.args.log.now in
    let t = transaction_of c.args.t in
    let raised : log.cell.current < c.args.view = search rules in
    let word = unsigned_elect (elect_said seat t log.cell.decision c.args.view) in
    enter_planned seat accepts (g.S.Signer.fixed c.args.pen.now) (pen_at book spent left) c.args.from t
    (logged_as c.args.id.now log) c.args.view
    c.in_ok-askers.askers c.in_ok-pending.pending c.signatures_end_frames.ensures.elects
    (is_raised log.cell.current c.args.view raised) (can_sign spent left (λ z. c.if-left-eq0.false (c.left-left.ensures ∙ z)))
    (c.in_ok-askers.ensures ∙ ap (asked_by c.args.from) c.as_slice.ensures.value)
    (c.in_ok-pending.ensures.words ∙ c.election-words.ensures)
    (c.in_ok-pending.ensures.fronts
    ∙ ap (λ (f : List ℕ). front_for f (Replica seat.home.shard c.leader_of.result) ∷ []) c.in_ok-frame.ensures
    ∙ ap (λ (i : ℕ). front_for (unsigned_elect (elect_said seat t log.cell.decision c.args.view)) (Replica seat.home.shard i) ∷ [])
    (c.leader_of.ensures.value ∙ ap (λ (n : ℕ). leader_of seat.home.cluster n c.args.view) c.time.ensures.value))
    ∙ ap
    (λ (k : LogCell). let w : LogWork = record {
      arrives = None;
      id = c.args.id.now;
      cell = k;
      askers = c.in_ok-askers.askers;
      said = Entered c.in_ok-pending.pending;
    } in Ok (perform_log (g.S.Signer.fixed c.args.pen.now) (begun (pen_at book spent left)) w)) (sym c.enter.ensures.value)
