use Rattle.std.proofs.Common.{refl, subst, sym}
use Rattle.run_sight.specs.Sights.{Sees, sight_of}
use Rattle.cluster_world.proofs.HandingLaws.{handed, not_handed, not_seen_err}
use Rattle.cluster_world.proofs.SendingLaws.{see_only, stands_seen}
use Rattle.cluster_world.proofs.engine.Engine.hand.Goals as goal

pub returns-in_err-look-clause-handed : goal.returns-in_err-look-clause-handed
returns-in_err-look-clause-handed g c = λ s st was h.
    not_seen_err g.V.Verifier g.S.Signer s st c.args.self.now.pool c.args.from c.args.to c.args.frame.now _ c.from_residual.result
    c.in_err-look.field-0.0 c.from_residual.ensures.1 (c.in_err-look.ensures.breach s st h.earlier h.sight)

pub returns-in-Ok-clause-handed : goal.returns-in-Ok-clause-handed
returns-in-Ok-clause-handed g c = λ s st was h.
    let old = c.args.self.now in
    let mid = record old { sight = c.look.new.self } in
    let k = c.in_ok-look.ensures.seen s st h.earlier h.sight was in
    handed g.V.Verifier g.S.Signer s old mid c.take.new.self st k.0 old.pool c.args.from c.args.to c.args.frame.now k.1 c.in-Ok.took
    (c.in-Ok.ensures.taken s k.0
    (stands_seen g.V.Verifier g.S.Signer s old mid st k.0 (sight_of st) refl (see_only s c.args.frame.now st k.0 k.1) h k.2))

pub returns-in-Err-clause-handed : goal.returns-in-Err-clause-handed
returns-in-Err-clause-handed g c = λ s st was h.
    let old = c.args.self.now in
    let mid = record old { sight = c.look.new.self } in
    let k = c.in_ok-look.ensures.seen s st h.earlier h.sight was in
    let stands = stands_seen g.V.Verifier g.S.Signer s old mid st k.0 (sight_of st) refl (see_only s c.args.frame.now st k.0 k.1) h k.2 in
    not_handed g.V.Verifier g.S.Signer s old c.take.new.self (record c.take.new.self { sight = c.undo.new.self }) st k.0 old.pool
    c.args.from c.args.to c.args.frame.now k.1 c.in-Err.fault refl (c.in-Err.ensures.taken s k.0 stands)
    (c.undo.ensures s (sight_of k.0) (sight_of st)
    (subst (λ x. Sees g.V.Verifier x s (sight_of k.0) (sight_of st)) (sym c.take.ensures.sight) k.2))
