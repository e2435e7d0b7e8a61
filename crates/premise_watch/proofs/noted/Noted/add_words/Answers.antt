use Rattle.std.proofs.Common.{◌≡◌, false, Option, None, Some, refl, sym, ◌∙◌}
use Rattle.std.specs.Prelude.{is_some}
use Rattle.premise_watch.specs.declared.noted.Noted.{Noted}
use Rattle.premise_watch.specs.Signers.{listed_at}
use Rattle.premise_watch.proofs.SignerLaws.{inserted, new_list}
use Rattle.premise_watch.proofs.noted.Noted.add_words.Goals as goal

nothing : {A : Type 0} (o : Option A) → is_some o ≡ false → o ≡ None
nothing None e = refl
nothing (Some x) e = absurd cc

pub returns-clause-same : goal.returns-clause-same
returns-clause-same c =
    let old = c.args.self.now in
    let new : Noted = record { alloc = old.alloc; signers = c.insert.new.self } in
    let bytes = c.bytes-bytes.result.now in
    let none : listed_at old bytes ≡ None = nothing _ (sym c.contains_key.ensures ∙ c.if-contains_key.false) in
    new_list old new bytes c.new.result none c.new.ensures.items
    (inserted old new bytes c.in_ok-key.key c.new.result c.in_ok-key.ensures.items c.in_ok-insert.ensures.updates)
