use Rattle.std.proofs.Common.{None, refl, sym, ap, ◌∙◌}
use Rattle.basil_types.specs.Shown.{transaction_of}
use Rattle.frame_views.specs.Walks.{signed_left}
use Rattle.premise_watch.specs.Marks.{MarkValue, Text}
use Rattle.premise_watch.proofs.PartLaws.{shown_parts, with_rival, without_rival}
use Rattle.premise_watch.proofs.parts.paired.Goals as goal
use Rattle.premise_watch.proofs.parts.paired.Goals.{then-is_some, else-is_some}

pub returns : goal.returns
returns c =
    let text : MarkValue = Text (transaction_of c.args.transaction) in
    let rival = c.rival-rival.result in
    elim c.if-is_some.branch [
      | then-is_some w ↦
          record {
            marks =
                ap (λ own. shown_parts text own rival (signed_left c.if-is_some.signed)) w.own-is
                ∙ ap (λ signed. shown_parts text w.next-own.result rival (signed_left signed)) w.signed-is
                ∙ with_rival text w.next-own.result rival _ (signed_left c.args.signed) _ c.rival-rival.ensures
                (sym c.is_some.ensures ∙ w.if-is_some.true) w.next-own.ensures.steps;
            prepared = refl;
            last = refl;
          }
      | else-is_some w ↦
          record {
            marks =
                ap (λ own. shown_parts text own rival (signed_left c.if-is_some.signed)) w.own-is
                ∙ ap (λ signed. shown_parts text None rival (signed_left signed)) w.signed-is
                ∙ without_rival text rival _ (signed_left c.args.signed) c.rival-rival.ensures (sym c.is_some.ensures ∙ w.if-is_some.false);
            prepared = refl;
            last = refl;
          }
    ]
