use Rattle.std.proofs.Common.{ap, take, ◌∙◌}
use Rattle.frame_views.specs.Shown.{message_of}
use Rattle.run_sight.specs.Keeping.{commits_of, decisions_of}
use Rattle.run_sight.proofs.PairLaws.{cut_back}
use Rattle.run_sight.proofs.SightLaws.{breaks_message, keeps, sees_message}
use Rattle.run_sight.proofs.sight.Sight.see_message.Goals as goal

pub returns-in-Ok-clause-seen : goal.returns-in-Ok-clause-seen
returns-in-Ok-clause-seen g c =
    sees_message g.V.Verifier c.args.self.now (message_of c.args.m.now) c.see.new.self c.certify.new.self c.lengths-before.result
    c.in_ok-certify.ensures.added
    (ap (λ n. take n (decisions_of c.certify.new.self)) c.lengths-before.ensures.decisions ∙ c.in_ok-certify.ensures.grown.decisions)
    (ap (λ n. take n (commits_of c.certify.new.self)) c.lengths-before.ensures.commits ∙ c.in_ok-certify.ensures.grown.commits)
    c.in-Ok.ensures.sound c.in-Ok.ensures.seen

pub returns-in-Err-clause-breach : goal.returns-in-Err-clause-breach
returns-in-Err-clause-breach g c =
    breaks_message g.V.Verifier c.args.self.now (message_of c.args.m.now) c.in-Err.fault c.in-Err.ensures.breach

pub returns-in-Err-clause-as_before : goal.returns-in-Err-clause-as_before
returns-in-Err-clause-as_before g c =
    keeps g.V.Verifier c.args.self.now c.see.new.self c.cut.new.self c.in-Err.ensures.as_before
    (cut_back c.args.self.now.certified c.certify.new.self c.cut.new.self c.lengths-before.result.decisions
    c.lengths-before.result.commits c.lengths-before.ensures.decisions c.lengths-before.ensures.commits
    c.in_ok-certify.ensures.grown c.cut.ensures.decisions c.cut.ensures.commits)
