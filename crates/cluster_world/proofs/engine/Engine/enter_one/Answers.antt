use Rattle.std.proofs.Common.{◌∙◌, ap, refl, subst}
use Rattle.run_sight.specs.Sights.{BreaksByFrame, Looks}
use Rattle.cluster_run.specs.Parts.{Mail}
use Rattle.cluster_world.specs.Sending.{has_frame_at}
use Rattle.cluster_world.proofs.SendingLaws.{entered, not_entered}
use Rattle.cluster_world.proofs.engine.Engine.enter_one.Goals as goal

pub returns-in_err-look-clause-goes : goal.returns-in_err-look-clause-goes
returns-in_err-look-clause-goes g c = λ s st h.
    let old = c.args.self.now in
    let m : Mail = record { from = c.args.from; to = c.args.to; frame = c.args.frame } in
    not_entered g.V.Verifier g.S.Signer s old (record old { sight = c.look.new.self }) st m c.from_residual.result c.in_err-look.field-0.0
    c.from_residual.ensures.1
    (subst (λ f. BreaksByFrame g.V.Verifier old.sight f c.in_err-look.field-0.0) c.as_slice-shown.ensures c.in_err-look.ensures.breach) h

pub returns-clause-goes : goal.returns-clause-goes
returns-clause-goes g c = λ s st h.
    let old = c.args.self.now in
    let mid = record old { sight = c.look.new.self } in
    let m : Mail = record { from = c.args.from; to = c.args.to; frame = c.args.frame } in
    entered g.V.Verifier g.S.Signer s old (record mid { pool = c.enter.new.self }) st m mid c.len.result
    c.has_frame-was_seen.result refl refl
    c.in_ok-enter.ensures.limits c.in_ok-enter.ensures.posts
    (c.has_frame-was_seen.ensures ∙ ap (has_frame_at old.pool.posts c.len.result) c.as_slice-shown.ensures)
    (subst (λ f. Looks g.V.Verifier old.sight c.look.new.self f c.has_frame-was_seen.result) c.as_slice-shown.ensures
    c.in_ok-look.ensures.seen) h
