use Rattle.std.proofs.Common.{refl, subst}
use Rattle.frame_views.specs.Shown.{message_of}
use Rattle.premise_watch.specs.Looks.{Breaks}
use Rattle.premise_watch.specs.Marks.{marks}
use Rattle.premise_watch.proofs.LookLaws.{is_seen, is_refused, passes_same}
use Rattle.premise_watch.proofs.watch.Watch.see.Goals as goal

pub returns-in-Ok-clause-seen : goal.returns-in-Ok-clause-seen
returns-in-Ok-clause-seen g c =
    is_seen (g.V.Verifier.accepted c.args.keys.now) c.args.faulty.now c.args.self.now c.look.new.self _ (marks (message_of c.args.m.now))
    (passes_same (g.V.Verifier.accepted c.args.keys.now) c.args.faulty.now
    c.args.self.now c.look.new.self _ _ c.parts_of.ensures c.in-Ok.ensures.passed) c.look.ensures.grown refl refl c.len-before.ensures

pub returns-in-Err-clause-breach : goal.returns-in-Err-clause-breach
returns-in-Err-clause-breach g c =
    is_refused (g.V.Verifier.accepted c.args.keys.now) c.args.faulty.now c.args.self.now (marks (message_of c.args.m.now)) c.in-Err.fault
    (subst (λ ms. Breaks (g.V.Verifier.accepted c.args.keys.now) c.args.faulty.now c.args.self.now ms c.in-Err.fault)
    c.parts_of.ensures c.in-Err.ensures.breach)
