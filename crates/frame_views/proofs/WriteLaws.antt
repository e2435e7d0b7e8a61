-- What the bytes of a list view spell.
use Rattle.std.proofs.Common.{◌≡◌, ℕ, List, [], ◌∷◌, length, Result, true, ap, ◌∙◌}
use Rattle.std.specs.List.{flat_map}
use Rattle.std.proofs.lemmas.List.{append-nil}
use Rattle.basil_types.specs.declared.reading.Fault.{Fault}
use Rattle.basil_types.specs.Lists.{items_at, list_of, is_whole}
use Rattle.basil_types.specs.Texts.{IsBytes}
use Rattle.basil_types.proofs.ListLaws.{Reads, reads-take, whole-is, whole-count}
use Rattle.frame_views.specs.Spelling.{counted}

module _ {V : Type 0} (one : ℕ → List ℕ → Result (V × List ℕ) Fault) (next : V → ℕ) (spell : V → List ℕ) (Fit : ℕ → V → Type 0) where
  pub whole_spelled : Reads one one spell Fit → (count : ℕ) (bytes : List ℕ) → IsBytes bytes
      → is_whole (items_at one next count 0 bytes) ≡ true → count ∷ bytes ≡ counted spell (list_of (items_at one next count 0 bytes))
  whole_spelled reads count bytes fits whole =
      let items = list_of (items_at one next count 0 bytes) in
      let t = reads-take one next one spell Fit reads count 0 bytes (items, []) fits (whole-is one next count 0 bytes whole) in
      ap (λ (k : ℕ). k ∷ bytes) (whole-count one next count 0 bytes whole)
      ∙ ap (λ (z : List ℕ). length items ∷ z) (t.0.parts ∙ append-nil (flat_map spell items))
