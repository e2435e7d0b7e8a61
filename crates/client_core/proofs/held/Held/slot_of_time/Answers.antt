use Rattle.std.proofs.Common.{◌∙◌}
use Rattle.client_core.proofs.FoundLaws.{place_within, time_found}
use Rattle.client_core.proofs.held.Held.slot_of_time.Goals as goal

pub returns-clause-found : goal.returns-clause-found
returns-clause-found c = λ v h. c.place_of_time.ensures ∙ time_found c.args.self.now v c.args.time h

pub returns-clause-within : goal.returns-clause-within
returns-clause-within c = place_within c.place_of_time.result _ c.args.self.now.slots.items c.place_of_time.ensures
