use Rattle.std.proofs.Common.{◌∙◌, ℕ, List, Some, None, refl, sym, ap}
use Rattle.basil_types.specs.declared.transaction.parts.WritePart.{WritePart}
use Rattle.client_core.specs.Slots.{with_slot}
use Rattle.client_core.specs.Works.{writes}
use Rattle.client_core.specs.Calls.{write_done}
use Rattle.client_core.proofs.HeldLaws.{got, write_answers}
use Rattle.client_core.proofs.held.Held.write.Goals as goal

pub returns-in-Some-clause-answer : goal.returns-in-Some-clause-answer
returns-in-Some-clause-answer c = λ v h wanting.
    let x = c.index-place.result.now in
    (write_answers c.args.self.now v c.args.slot x h (got c.args.self.now.slots.items c.args.slot x c.requires c.index-place.ensures)
    (record { key = c.args.key.now; value = c.args.value.now; deletes = c.args.deletes }) (Some c.in-Some.fault) c.in-Some.ensures).2

pub returns-clause-answer : goal.returns-clause-answer
returns-clause-answer c = λ v h.
    let x = c.index-place.result.now in
    let made : List ℕ → List ℕ → WritePart = λ k u. record { key = k; value = u; deletes = c.args.deletes } in
    let w = made c.args.key.now c.args.value.now in
    let copied = ap (λ k. made k c.args.value.now) (sym c.in_ok-key.ensures) ∙ ap (made c.in_ok-key.key) (sym c.in_ok-value.ensures) in
    let a =
    write_answers c.args.self.now v c.args.slot x h (got c.args.self.now.slots.items c.args.slot x c.requires c.index-place.ensures)
    w None c.in-None.ensures in (
      write_done v c.args.slot w a.0,
      a.2,
      c.in_ok-put_write.ensures.kept v _ h (a.0, a.1, ap (λ (k : WritePart). with_slot v c.args.slot (writes k a.0)) copied),
      refl,
    )
