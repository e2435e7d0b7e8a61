use Rattle.std.proofs.Common.{Ok, ap, sym, ◌∙◌}
use Rattle.frame_views.specs.Fitting.{bounds_of}
use Rattle.frame_views.specs.Frames.{frame_in}
use Rattle.frame_views.specs.Shown.{message_of}
use Rattle.run_sight.proofs.SightLaws.{breaks_frame, if_err, on_ok, sees_frame}
use Rattle.run_sight.proofs.sight.Sight.see.Goals as goal

pub returns-in-Ok-clause-seen : goal.returns-in-Ok-clause-seen
returns-in-Ok-clause-seen g c =
    on_ok _ _ c.see_message.result
    (sees_frame g.V.Verifier c.args.self.now c.see_message.new.self c.args.frame.now (Ok (message_of c.in-Ok.m)) c.in_range.ensures.in_range
    (ap (frame_in (bounds_of c.args.self.now.cluster)) (sym c.in_range.ensures.same) ∙ c.in-Ok.ensures.exact)) c.see_message.ensures.seen

pub returns-in-Ok-clause-breach : goal.returns-in-Ok-clause-breach
returns-in-Ok-clause-breach g c =
    if_err _ _ c.see_message.result
    (λ f.
    breaks_frame g.V.Verifier c.args.self.now c.args.frame.now (Ok (message_of c.in-Ok.m)) f c.in_range.ensures.in_range
    (ap (frame_in (bounds_of c.args.self.now.cluster)) (sym c.in_range.ensures.same) ∙ c.in-Ok.ensures.exact)) c.see_message.ensures.breach
