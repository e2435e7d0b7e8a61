-- A walk backwards through a part of a map.
use Rattle.std.proofs.Common.{◌≡◌, List, [], ◌∷◌, length, ap, subst, ◌∙◌}
use Rattle.std.specs.Prelude.{reverse}
use Rattle.std.specs.declared.iter.Rev.{Rev}
use Rattle.std.specs.Iterator.Adapters.{rev_source, rev_steps}
use Rattle.std.specs.Map.Iter.{TakesLast}
use Rattle.std.proofs.lemmas.List.{reverse-append, length-reverse}
use Rattle.std.proofs.lemmas.Iterator.{YieldsList}
use Rattle.std.proofs.lemmas.Iterator.Consumers.{YieldsList-from_shown}

pub YieldsList-from_last : {A X : Type 0} {shows : A → X} {s : Rev (List X)} (xs : List X) → rev_source s ≡ xs
    → YieldsList (rev_steps (TakesLast shows)) shows s (reverse xs)
YieldsList-from_last {A} {X} {shows} {s} xs e =
    subst (λ k. YieldsList (rev_steps (TakesLast shows)) shows s (reverse k)) e
    (YieldsList-from_shown (rev_steps (TakesLast shows)) shows (λ u. reverse (rev_source u)) (λ u t p. length-reverse _ ∙ ap length p.0)
    (λ u x t p. ap reverse p ∙ reverse-append (rev_source t) (shows x ∷ [])) s)
