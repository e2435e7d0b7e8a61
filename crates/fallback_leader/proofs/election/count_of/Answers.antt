use Rattle.std.proofs.Common.{List, ℕ, length, ap, ◌∙◌}
use Rattle.fallback_leader.proofs.IndexLaws.{count_is}
use Rattle.fallback_leader.proofs.election.count_of.Goals as goal

pub returns : goal.returns
returns c =
    ap (λ (ps : List ℕ). length ps) c.places.ensures
    ∙ count_is c.args._kept.now c.args.index.now c.args.id.now c.args.view c.requires
