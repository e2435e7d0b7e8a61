use Rattle.std.proofs.Common.{◌∙◌, ap}
use Rattle.std.specs.Prelude.{◌||◌, is_some}
use Rattle.client_recover.specs.Pursuits.{outcome}
use Rattle.client_core.proofs.held.Formed.is_over.Goals as goal

pub returns : goal.returns
returns c = λ p h.
    let f = c.args.self.now in
    c.is_over.ensures
    ∙ ap (λ b. b || f.second) (c.has_outcome.ensures p h)
    ∙ ap (λ b. is_some (outcome f.pursuit.cluster p) || b) h.second
