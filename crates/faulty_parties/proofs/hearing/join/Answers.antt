use Rattle.std.proofs.Common.{ℕ, List, ap, ◌∙◌}
use Rattle.std.specs.Prelude.{◌==◌}
use Rattle.std.specs.List.{list_any}
use Rattle.frame_values.specs.declared.owned.parts.ElectPart.{ElectPart}
use Rattle.frame_views.specs.Values.{WordValue}
use Rattle.faulty_parties.specs.Heard.{said_of}
use Rattle.faulty_parties.proofs.HearLaws.{joins_none, joins_one}
use Rattle.faulty_parties.proofs.hearing.join.Goals as goal

pub returns-then-is_of : goal.returns-then-is_of
returns-then-is_of c =
    joins_none (said_of c.args.heard) c.args.words.now.items c.is_of.result
    (c.is_of.ensures
    ∙ ap (λ (l : List ElectPart). list_any (λ (p : ElectPart). c.args.heard.replica == p.replica) l) c.as_slice.ensures.value)
    c.if-is_of.true

pub returns : goal.returns
returns c =
    let h = c.args.heard in
    let part : ElectPart = record { replica = h.replica; decision = h.decision; signature = c.in_ok-copy_of.field-0 } in
    let made : List ℕ → WordValue = λ s. record { replica = h.replica; decision = h.decision; signature = s } in
    joins_one (said_of h) c.args.words.now.items c.push.new.self.items part c.is_of.result
    (c.is_of.ensures ∙ ap (λ (l : List ElectPart). list_any (λ (p : ElectPart). h.replica == p.replica) l) c.as_slice.ensures.value)
    c.if-is_of.false c.in_ok-push.ensures.items (ap made c.in_ok-copy_of.ensures)
