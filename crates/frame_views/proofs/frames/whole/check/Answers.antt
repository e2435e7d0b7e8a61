use Rattle.std.proofs.Common.{subst, arith}
use Rattle.frame_views.specs.declared.bounds.Bounds.{Bounds}
use Rattle.frame_views.specs.Fitting.{bounds_of}
use Rattle.frame_views.specs.Frames.{Answers, frame_in}
use Rattle.frame_views.specs.Shown.{message_of}
use Rattle.frame_views.proofs.FrameLaws.{is_found, is_spoken, frame_again}
use Rattle.frame_views.proofs.frames.whole.check.Goals as goal

answered : (c : goal.After-checked) → Answers message_of c.checked.result (frame_in (bounds_of c.args.cluster.now) c.args.frame.now)
answered c = subst (λ (b : Bounds). Answers message_of c.checked.result (frame_in b c.args.frame.now)) c.of.ensures.value c.checked.ensures

pub returns-clause-found : goal.returns-clause-found
returns-clause-found c =
    is_found message_of c.args.cluster.now c.args.frame.now c.checked.result (λ i. omega (arith, c.type_inv.frame i)) (answered c)

pub returns-clause-only : goal.returns-clause-only
returns-clause-only c =
    λ m is. subst (λ r. Answers message_of c.checked.result r) (frame_again c.args.cluster.now c.args.frame.now m is) (answered c)

pub returns-clause-spoken : goal.returns-clause-spoken
returns-clause-spoken c =
    is_spoken message_of c.args.cluster.now c.args.frame.now c.checked.result
    (is_found message_of c.args.cluster.now c.args.frame.now c.checked.result (λ i. omega (arith, c.type_inv.frame i)) (answered c))
