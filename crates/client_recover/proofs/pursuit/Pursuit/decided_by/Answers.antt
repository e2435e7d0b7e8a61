use Rattle.std.proofs.Common.{sym, ap, ◌∙◌}
use Rattle.std.specs.Prelude.{option_map}
use Rattle.frame_values.specs.Owned.{certificate_value}
use Rattle.frame_views.specs.Shown.{voted_of}
use Rattle.client_recover.specs.Certifying.{conflict_by}
use Rattle.client_recover.specs.Kept.{fast_by}
use Rattle.client_recover.proofs.RefuseLaws.{none_then}
use Rattle.client_recover.proofs.pursuit.Pursuit.decided_by.Goals as goal

pub returns-in-None : goal.returns-in-None
returns-in-None c =
    let u = c.args.self.now in
    none_then c.conflict.result (fast_by u.cluster u.id u.shards u.votes) (conflict_by u.transaction (voted_of c.args.vote.now))
    (ap (λ s. fast_by u.cluster u.id s u.votes) (sym c.as_slice.ensures)
    ∙ sym c.in_ok-decided.ensures ∙ ap (option_map certificate_value) c.in-None.is)
    (c.conflict.ensures u.transaction u.named)
