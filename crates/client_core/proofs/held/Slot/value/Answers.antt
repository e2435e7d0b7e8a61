use Rattle.std.proofs.Common.{◌∙◌, Option, ap}
use Rattle.std.specs.Prelude.{option_map}
use Rattle.std.specs.Option.{option_map_or}
use Rattle.client_core.specs.declared.asking.Asking.{Asking}
use Rattle.client_core.specs.Keeping.{state_kept}
use Rattle.client_core.specs.Kept.{shown_read}
use Rattle.client_core.specs.Slots.{own_state, write_in}
use Rattle.client_core.proofs.ShowingLaws.{value_law}
use Rattle.client_core.proofs.held.Slot.value.Goals as goal

pub returns-in-Some : goal.returns-in-Some
returns-in-Some c = λ reads p keeps.
    c.state.ensures
    ∙ ap (λ (o : Option Asking). option_map_or (state_kept c.args.cluster.now) (option_map shown_read o)
    (own_state (write_in c.args.key.now c.args.self.now.writes.items))) c.in-Some.ensures
    ∙ value_law c.args.cluster.now c.args.self.now reads p c.args.key.now keeps

pub returns-in-None : goal.returns-in-None
returns-in-None c = λ reads p keeps.
    c.own.ensures
    ∙ ap own_state c.write_to.ensures
    ∙ ap (λ (o : Option Asking). option_map_or (state_kept c.args.cluster.now) (option_map shown_read o)
    (own_state (write_in c.args.key.now c.args.self.now.writes.items))) c.in-None.ensures
    ∙ value_law c.args.cluster.now c.args.self.now reads p c.args.key.now keeps
