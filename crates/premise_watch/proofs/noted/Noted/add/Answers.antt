use Rattle.std.proofs.Common.{◌≡◌, [], ◌∷◌, ◌++◌, cond, Some, sym, ap, ◌∙◌}
use Rattle.std.specs.Option.{option_copied_mut}
use Rattle.std.specs.Str.{bytes_eq}
use Rattle.premise_watch.specs.declared.noted.Noted.{Noted}
use Rattle.premise_watch.specs.Signers.{listed_at, signers_of, SameSigners}
use Rattle.premise_watch.proofs.SignerLaws.{written, adds, same_items, on_any}
use Rattle.premise_watch.proofs.noted.Noted.add.Goals as goal

pub returns-in_err-push-in-Some-clause-as_before : goal.returns-in_err-push-in-Some-clause-as_before
returns-in_err-push-in-Some-clause-as_before c =
    let middle = c.add_words.new.self in
    let new : Noted = record { alloc = middle.alloc; signers = c.get_mut.follows.lender c.push.new.self } in
    let bytes = c.bytes.result.now in
    let found : listed_at middle bytes ≡ Some c.in-Some.signers.now = sym c.get_mut.ensures.value ∙ ap option_copied_mut c.in-Some.is in
    let same : SameSigners c.args.self.now new = λ w.
    same_items middle new bytes c.in-Some.signers.now c.push.new.self found c.in_err-push-in-Some.ensures.items
    (written middle new bytes c.in-Some.signers.now c.push.new.self found (c.get_mut.follows.holds c.push.new.self)) w
    ∙ c.add_words.ensures.same w in
    on_any c.from_residual-in_err-push-in-Some.result (SameSigners c.args.self.now new) same

pub returns-clause-added : goal.returns-clause-added
returns-clause-added c w =
    let middle = c.add_words.new.self in
    let new : Noted = record { alloc = middle.alloc; signers = c.get_mut.follows.lender c.push.new.self } in
    let bytes = c.bytes.result.now in
    let found : listed_at middle bytes ≡ Some c.in-Some.signers.now = sym c.get_mut.ensures.value ∙ ap option_copied_mut c.in-Some.is in
    adds middle new bytes c.args.party c.in-Some.signers.now c.push.new.self found c.in_ok-push-in-Some.ensures.items
    (written middle new bytes c.in-Some.signers.now c.push.new.self found (c.get_mut.follows.holds c.push.new.self)) w
    ∙ ap (λ b. signers_of middle w ++ cond (bytes_eq b w) (c.args.party ∷ []) []) c.bytes.ensures
    ∙ ap (λ ps. ps ++ cond (bytes_eq c.args.words.now w) (c.args.party ∷ []) []) (c.add_words.ensures.same w)
