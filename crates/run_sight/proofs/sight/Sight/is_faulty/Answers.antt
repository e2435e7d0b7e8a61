use Rattle.std.proofs.Common.{ap, ◌∙◌}
use Rattle.premise_watch.specs.Parties.{is_among}
use Rattle.run_sight.proofs.sight.Sight.is_faulty.Goals as goal

pub returns : goal.returns
returns g c s now earlier h = c.has.ensures ∙ ap (λ parties. is_among parties c.args.party) h.faulty
