use Rattle.std.proofs.Common.{ℕ, Option, sym, ap, ◌∙◌}
use Rattle.std.specs.Global.{Vec}
use Rattle.basil_types.specs.declared.party.Decision.{Decision}
use Rattle.txn_table.specs.Released.{placed_vote}
use Rattle.txn_table.proofs.Reading.{gives_some, gives_none}
use Rattle.txn_table.proofs.table.Table.released_among.Goals as goal
use Rattle.txn_table.proofs.table.Table.released_among.Goals.{in-Some+in_ok-push, in_default}

pub loop-i-preserved : goal.loop-i-preserved
loop-i-preserved c =
    let g : ℕ → Option (ℕ × Decision) = placed_vote c.args.home.now c.args.supposed.now c.args.self.now.entries in
    let places = c.args.places.now in
    let i = c.loop-i.i in
    elim c.match-vote_among.branch [
      | in-Some+in_ok-push w ↦
          gives_some g places i w.in-Some.vote c.loop-i.released.items c.match-vote_among.released.items
          (sym c.vote_among.ensures ∙ w.in-Some.is) c.loop-i.invariant
          (ap (λ (v : Vec (ℕ × Decision)). v.items) w.released-is ∙ w.in_ok-push.ensures.items)
      | in_default w ↦
          ap (λ (v : Vec (ℕ × Decision)). v.items) w.released-is
          ∙ gives_none g places i c.loop-i.released.items (sym c.vote_among.ensures ∙ w.in_default.is) c.loop-i.invariant
    ]
