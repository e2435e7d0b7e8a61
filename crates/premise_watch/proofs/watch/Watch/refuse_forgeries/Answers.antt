use Rattle.frame_views.specs.Walks.{signed_of, signed_left}
use Rattle.premise_watch.proofs.LookLaws.{one_signature, one_forgery, all_passed, err_told}
use Rattle.premise_watch.proofs.watch.Watch.refuse_forgeries.Goals as goal

pub loop-item-preserved : goal.loop-item-preserved
loop-item-preserved g c =
    let s = c.loop-item.invariant.split in
    let more = one_signature (g.V.Verifier.accepted c.args.keys.now) c.args.faulty.now c.args.self.now
    (signed_left c.args.signed) s.0 (signed_left c.loop-item.item-iterator)
    (signed_left c.next.new.self) (signed_of c.in-Some.item) s.1 c.in-Some.ensures.steps s.2 c.in_ok-refuse_forgery.ensures.passed in
    record { can = tt; ends = tt; split = more }

pub returns-in_err-refuse_forgery-clause-breach : goal.returns-in_err-refuse_forgery-clause-breach
returns-in_err-refuse_forgery-clause-breach g c =
    let s = c.loop-item.invariant.split in
    err_told _ c.from_residual.result _ c.from_residual.ensures.1
    (one_forgery (g.V.Verifier.accepted c.args.keys.now) c.args.faulty.now c.args.self.now
    (signed_left c.args.signed) s.0 (signed_left c.loop-item.item-iterator)
    (signed_left c.next.new.self) (signed_of c.in-Some.item) s.1 c.in-Some.ensures.steps s.2 _ c.in_err-refuse_forgery.ensures.breach)

pub returns-clause-passed : goal.returns-clause-passed
returns-clause-passed g c =
    let s = c.loop-item.invariant.split in
    all_passed (g.V.Verifier.accepted c.args.keys.now) c.args.faulty.now c.args.self.now
    (signed_left c.args.signed) s.0 (signed_left c.loop-item.item-iterator) s.1 c.in-None.ensures.steps.0 s.2
