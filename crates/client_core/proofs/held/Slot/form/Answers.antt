use Rattle.std.proofs.Common.{◌∙◌, List, ap, map}
use Rattle.basil_types.specs.Built.{built}
use Rattle.basil_types.specs.declared.transaction.parts.ReadPart.{ReadPart}
use Rattle.client_core.specs.declared.asking.Asking.{Asking}
use Rattle.client_core.specs.Keeping.{part_kept}
use Rattle.client_core.specs.Kept.{shown_read}
use Rattle.client_core.specs.Slots.{as_read}
use Rattle.client_core.proofs.PreparingLaws.{parts_law, if_ok_from}
use Rattle.client_core.proofs.held.Slot.form.Goals as goal

pub returns-in-Ok-clause-formed : goal.returns-in-Ok-clause-formed
returns-in-Ok-clause-formed c = λ reads keeps.
    let cl = c.args.cluster.now in
    let x = c.args.self.now in
    let parts =
    c.as_slice-2.ensures.value ∙ c.in_ok-parts.ensures
    ∙ ap (λ (a : List Asking). map (part_kept cl) (map shown_read a)) c.as_slice.ensures.value
    ∙ parts_law cl x.reads.items reads keeps in
    if_ok_from c.refuse_bad_form.result c.in-Ok.t _
    (c.in-Ok.ensures.value
    ∙ ap (λ (l : List ReadPart). built x.time c.args.number l c.as_slice-3.result.now) parts
    ∙ ap (built x.time c.args.number (map (as_read cl) reads)) c.as_slice-3.ensures.value)
    c.refuse_bad_form.ensures.same
