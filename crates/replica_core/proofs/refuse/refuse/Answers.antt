use Rattle.std.proofs.Common.{sym, subst, ◌∙◌}
use Rattle.frame_views.specs.Shown.{message_of}
use Rattle.basil_types.specs.Refusals.{Refuses}
use Rattle.replica_core.specs.Seats.{self_at}
use Rattle.replica_core.proofs.RefusingLaws.{signature_refused, proof_left, ok_none, err_some}
use Rattle.replica_core.proofs.refuse.refuse.Goals as goal

pub returns-in-Ok-clause-exact : goal.returns-in-Ok-clause-exact
returns-in-Ok-clause-exact g c signing =
    let accepts = g.V.Verifier.accepted c.args.keys.now in
    let me = self_at c.args.seat.now accepts signing in
    let m = message_of c.args.m.now in
    let mine = sym (c.is_mine.ensures accepts signing) ∙ c.if-not-is_mine.false in
    subst (Refuses c.refuse_proof.result)
    (sym (proof_left me m c.in_ok-refuse_form.ensures mine
    (ok_none c.refuse_signatures.result _ _ (c.refuse_signatures.ensures signing) c.in-Ok.is))) (c.refuse_proof.ensures signing)

pub returns-in-Err-clause-exact : goal.returns-in-Err-clause-exact
returns-in-Err-clause-exact g c signing =
    let accepts = g.V.Verifier.accepted c.args.keys.now in
    let me = self_at c.args.seat.now accepts signing in
    let m = message_of c.args.m.now in
    let mine = sym (c.is_mine.ensures accepts signing) ∙ c.if-not-is_mine.false in
    signature_refused me m c.in_ok-refuse_form.ensures mine c.in-Err.refused
    (err_some c.refuse_signatures.result _ _ (c.refuse_signatures.ensures signing) c.in-Err.is)
