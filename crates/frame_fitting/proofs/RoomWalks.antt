-- The room behind a list, one item after the other.
use Rattle.std.proofs.Common.{◌≡◌, ℕ, ◌+◌, ◌<◌, ◌≤◌, List, ◌∷◌, length, map, drop, get_or, Option, Some, None, sym, ap, ◌∙◌}
use Rattle.std.specs.Prelude.{option_and_then}
use Rattle.std.proofs.lemmas.List.{at_drop_more, at_drop_all}
use Rattle.frame_fitting.specs.Room.{items_room}

module _ {P V : Type 0} (one : ℕ → V → ℕ → Option ℕ) (next : V → ℕ) (of : P → V) (ps : List P) (whole : Option ℕ) where
  abbrev Left : ℕ → ℕ → ℕ → Type 0
  Left i floor left = items_room one next floor (map of (drop i ps)) left ≡ whole

  step : (i floor left : ℕ) (p : P) → i < length ps → p ≡ get_or ps i p → items_room one next floor (map of (drop i ps)) left
      ≡ option_and_then (items_room one next (next (of p)) (map of (drop (i + 1) ps))) (one floor (of p) left)
  unfolding items_room
  step i floor left p within is =
      at_drop_more (λ (qs : List P). items_room one next floor (map of qs) left) ps i p within
      ∙ ap (λ (q : P). items_room one next floor (of q ∷ map of (drop (i + 1) ps)) left) (sym is)

  pub goes_on : (i floor left after : ℕ) (p : P) →
      i < length ps → p ≡ get_or ps i p → one floor (of p) left ≡ Some after → Left i floor left → Left (i + 1) (next (of p)) after
  goes_on i floor left after p within is e inv = sym (ap (option_and_then (items_room one next (next (of p)) (map of (drop (i + 1) ps)))) e)
      ∙ sym (step i floor left p within is) ∙ inv

  pub stops : (i floor left : ℕ) (p : P) →
      i < length ps → p ≡ get_or ps i p → one floor (of p) left ≡ None → Left i floor left → None ≡ whole
  stops i floor left p within is e inv = sym (ap (option_and_then (items_room one next (next (of p)) (map of (drop (i + 1) ps)))) e)
      ∙ sym (step i floor left p within is) ∙ inv

  pub ends : (i floor left : ℕ) → length ps ≤ i → Left i floor left → Some left ≡ whole
  unfolding items_room
  ends i floor left past inv = sym (at_drop_all (λ (qs : List P). items_room one next floor (map of qs) left) ps i past) ∙ inv
