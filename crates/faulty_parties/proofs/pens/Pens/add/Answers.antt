use Rattle.std.proofs.Common.{◌∷◌, ◌++◌, [], List, ap, ◌∙◌}
use Rattle.faulty_parties.specs.declared.pens.Pen.{Pen}
use Rattle.faulty_parties.proofs.PenLaws.{lie_more, pen_for}
use Rattle.faulty_parties.proofs.pens.Pens.add.Goals as goal

pub returns-clause-lie : goal.returns-clause-lie
returns-clause-lie g c s parties lie is =
    lie_more g.S.Signer s parties c.args.party c.args.pen c.args.self.now (record { pens = c.push_reserved.new.self })
    (c.push_reserved.ensures.items
    ∙ ap (λ (l : List (Pen _)). l ++ pen_for c.args.party c.args.pen ∷ []) c.in_ok-reserve.ensures.items)
    lie is
