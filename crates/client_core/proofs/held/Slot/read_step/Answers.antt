use Rattle.std.proofs.Common.{rules, ◌∙◌, sym, ap}
use Rattle.client_core.specs.Calls.{read_done}
use Rattle.client_core.specs.Clients.{quiet}
use Rattle.client_core.specs.Showing.{slot_value}
use Rattle.client_core.specs.Steps.{by_step}
use Rattle.client_core.proofs.StepLaws.{read_law, step_same}
use Rattle.client_core.proofs.held.Slot.read_step.Goals as goal

pub returns-clause-exact : goal.returns-clause-exact
returns-clause-exact c = λ me v place reads p keeps formed.
    read_law me v place c.args.key.now c.args.self.now reads p keeps formed
    ∙ ap (λ r. by_step r (quiet v) (read_done me v place (slot_value c.args.self.now reads p) c.args.key.now))
    (sym (c.step_of.ensures.exact ∙ step_same c.is_some-formed.ensures c.knows-known.ensures (search rules) c.key_fits.ensures))
