use Rattle.std.proofs.Common.{ap, ◌∙◌}
use Rattle.client_recover.specs.Kept.{logged_by}
use Rattle.client_recover.proofs.FitLaws.{second_written}
use Rattle.client_recover.proofs.TakeLaws.{second_stands, no_second}
use Rattle.client_recover.proofs.pursuit.Pursuit.second.Goals as goal

pub returns-in_ok-message-in-Some-clause-value : goal.returns-in_ok-message-in-Some-clause-value
returns-in_ok-message-in-Some-clause-value c p h =
    let u = c.args.self.now in
    second_stands u p h u.involves c.in_ok-to_log.to_log c.in-Some.to_log _ c.in-Some.is
    (c.in_ok-to_log.ensures ∙ ap (λ s. logged_by u.cluster s u.votes) c.as_slice.ensures)
    c.in_ok-message-in-Some.ensures

pub returns-in-None-clause-value : goal.returns-in-None-clause-value
returns-in-None-clause-value c p h =
    let u = c.args.self.now in
    no_second u p h u.involves c.in_ok-to_log.to_log c.in-None.is
    (c.in_ok-to_log.ensures ∙ ap (λ s. logged_by u.cluster s u.votes) c.as_slice.ensures)

pub returns-in_ok-message-in-Some-clause-fits : goal.returns-in_ok-message-in-Some-clause-fits
returns-in_ok-message-in-Some-clause-fits c =
    let u = c.args.self.now in
    second_written c.in_ok-to_log.to_log c.in-Some.to_log _ u.transaction u.signature
    (logged_by u.cluster u.shards u.votes) c.seconds_fit.ensures c.in-Some.is
    (c.in_ok-to_log.ensures ∙ ap (λ s. logged_by u.cluster s u.votes) c.as_slice.ensures)
    c.in_ok-message-in-Some.ensures
