use Rattle.std.proofs.Common.{ap, ◌∙◌}
use Rattle.std.specs.List.{list_all}
use Rattle.client_recover.specs.Kept.{has_all}
use Rattle.client_recover.proofs.TakeLaws.{voted_stands}
use Rattle.client_recover.proofs.pursuit.Pursuit.all_voted.Goals as goal

pub returns : goal.returns
returns c p h =
    let u = c.args.self.now in
    c.each_has_all.ensures
    ∙ ap (λ s. list_all (has_all u.cluster u.votes) s) c.as_slice.ensures
    ∙ voted_stands u p h u.involves
