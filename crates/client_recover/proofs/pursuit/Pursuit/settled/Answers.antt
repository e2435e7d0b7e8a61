use Rattle.std.proofs.Common.{ap, ◌∙◌}
use Rattle.std.specs.Prelude.{option_map}
use Rattle.client_recover.specs.Kept.{logged_by}
use Rattle.client_recover.specs.Taken.{LogsValue}
use Rattle.client_recover.proofs.TakeLaws.{logged_stands}
use Rattle.client_recover.proofs.pursuit.Pursuit.settled.Goals as goal

pub returns : goal.returns
returns c p h =
    let u = c.args.self.now in
    c.decision_by.ensures
    ∙ ap (option_map (λ (l : LogsValue). l.decision))
    (ap (λ s. logged_by u.cluster s u.votes) c.as_slice.ensures ∙ logged_stands u p h u.involves)
