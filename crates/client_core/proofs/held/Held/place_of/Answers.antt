use Rattle.std.proofs.Common.{ap, ◌∙◌}
use Rattle.std.specs.Prelude.{position}
use Rattle.client_core.specs.Finding.{is_id}
use Rattle.client_core.proofs.FindingLaws.{id_placed}
use Rattle.client_core.proofs.held.Held.place_of.Goals as goal

pub returns : goal.returns
returns c =
    let held = c.args.self.now in
    let named = c.args.id.now in
    c.place_among.ensures ∙ ap (position (is_id named)) (c.as_slice.ensures.value ∙ held.named) ∙ id_placed named held.slots.items
