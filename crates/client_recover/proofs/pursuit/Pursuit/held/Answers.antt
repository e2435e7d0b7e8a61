use Rattle.std.proofs.Common.{◌∙◌}
use Rattle.client_recover.proofs.TakeLaws.{held_stands}
use Rattle.client_recover.proofs.pursuit.Pursuit.held.Goals as goal

pub returns : goal.returns
returns c p h = c.count.ensures ∙ held_stands c.args.self.now p h
