use Rattle.std.proofs.Common.{ℕ, Option, sym, ap, ◌∙◌, option_map}
use Rattle.std.specs.Option.{option_and_then}
use Rattle.basil_types.specs.declared.party.Decision.{Decision}
use Rattle.txn_table.specs.Released.{placed_vote}
use Rattle.txn_table.proofs.table.Table.vote_among.Goals as goal

pub returns-in-Some : goal.returns-in-Some
returns-in-Some c =
    let g : ℕ → Option (ℕ × Decision) = placed_vote c.args.home.now c.args.supposed.now c.args.self.now.entries in
    c.placed.ensures ∙ ap (option_map (λ (vote : Decision). let x : ℕ × Decision = (c.in-Some.place, vote) in x)) c.vote_at.ensures
    ∙ sym (ap (option_and_then g) (sym c.place_in.ensures ∙ c.in-Some.is))
