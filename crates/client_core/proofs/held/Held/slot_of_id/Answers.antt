use Rattle.std.proofs.Common.{◌<◌, ◌∙◌, ℕ, Option, length, sym, subst}
use Rattle.std.specs.Prelude.{IfSome}
use Rattle.client_core.specs.Finding.{is_named}
use Rattle.client_core.proofs.FindingLaws.{id_found, position_within}
use Rattle.client_core.proofs.held.Held.slot_of_id.Goals as goal

pub returns-clause-found : goal.returns-clause-found
returns-clause-found c = λ v h. c.place_of.ensures ∙ id_found c.args.self.now v c.args.id.now h

pub returns-clause-within : goal.returns-clause-within
returns-clause-within c =
    let slots = c.args.self.now.slots.items in
    subst (λ (o : Option ℕ). IfSome o (λ i. i < length slots)) (sym c.place_of.ensures)
    (position_within (is_named c.args.id.now) slots)
