use Rattle.client_core.proofs.ShowingLaws.{slots_count}
use Rattle.client_core.proofs.laws.slots_are_held.Goals as goal

pub returns : goal.returns
returns c = λ held v h. slots_count held.slots.items v.slots h.slots
