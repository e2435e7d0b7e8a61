-- Searches among held transactions, joined along a list.
use Rattle.std.proofs.Common.{◌≡◌, ℕ, ◌+◌, ◌≤◌, Bool, false, List, length, drop, Some, None, sym, ap, ◌∙◌}
use Rattle.std.specs.Prelude.{slice_get, ◌||◌}
use Rattle.std.specs.List.{list_any}
use Rattle.mv_store.specs.declared.hits.Hits.{Hits}
use Rattle.mv_store.specs.Held.{Held, hits}
use Rattle.mv_store.specs.Hits.{no_hits}
use Rattle.mv_store.specs.Hits.{joined}
use Rattle.mv_store.proofs.HitLaws.{both, joined_assoc, joined_none}
use Rattle.mvtso_check.proofs.HitLaws.{least_either, any_either, least_none_pass, any_none_pass}
use Rattle.basil_types.proofs.Walks.{drop_here, drop_past, drop_short}

pub hits_alike : (p q : Held → Bool) (held : List Held) → ((h : Held) → p h ≡ q h) → hits p held ≡ hits q held
hits_alike p q held e = ap (λ (f : Held → Bool). hits f held) (λ i h. e h i)

pub hits_either : (p q : Held → Bool) (held : List Held) → hits (λ h. p h || q h) held ≡ joined (hits p held) (hits q held)
hits_either p q held = both _ _ _ _ (any_either p q held) (least_either (λ h. h.committed) p q (λ h. h.place) held)

pub hits_nothing : (held : List Held) → hits (λ h. false) held ≡ no_hits
hits_nothing held = both _ _ _ _ (any_none_pass held) (least_none_pass (λ (h : Held). h.committed) (λ h. h.place) held)

-- what some item of a list finds: by the item at a place, and by those behind it
module _ {A : Type 0} (finds : Held → A → Bool) (xs : List A) (held : List Held) where
  pub hits_here : (i : ℕ) (x : A) → slice_get xs i ≡ Some x
      → hits (λ h. list_any (finds h) (drop i xs)) held
      ≡ joined (hits (λ h. finds h x) held) (hits (λ h. list_any (finds h) (drop (i + 1) xs)) held)
  hits_here i x e = ap (λ (ys : List A). hits (λ h. list_any (finds h) ys) held) (drop_here xs i x e)
      ∙ hits_either (λ h. finds h x) (λ h. list_any (finds h) (drop (i + 1) xs)) held

  pub hits_past : (i : ℕ) → slice_get xs i ≡ None → hits (λ h. list_any (finds h) (drop i xs)) held ≡ no_hits
  hits_past i e = ap (λ (ys : List A). hits (λ h. list_any (finds h) ys) held) (drop_past xs i e) ∙ hits_nothing held

  pub hits_short : (i : ℕ) → length xs ≤ i → hits (λ h. list_any (finds h) (drop i xs)) held ≡ no_hits
  hits_short i l = ap (λ (ys : List A). hits (λ h. list_any (finds h) ys) held) (drop_short xs i l) ∙ hits_nothing held

  -- the walk goes on: what was found is joined with what the item at the place finds
  pub goes_on : (i : ℕ) (x : A) (found found' one all : Hits) → slice_get xs i ≡ Some x → found' ≡ joined found one
      → one ≡ hits (λ h. finds h x) held → joined found (hits (λ h. list_any (finds h) (drop i xs)) held) ≡ all
      → joined found' (hits (λ h. list_any (finds h) (drop (i + 1) xs)) held) ≡ all
  goes_on i x found found' one all e f o h =
      ap (λ (a : Hits). joined a (hits (λ h. list_any (finds h) (drop (i + 1) xs)) held)) (f ∙ ap (joined found) o)
      ∙ joined_assoc found (hits (λ h. finds h x) held) (hits (λ h. list_any (finds h) (drop (i + 1) xs)) held)
      ∙ ap (joined found) (sym (hits_here i x e)) ∙ h

  pub ends : (i : ℕ) (found all : Hits) → slice_get xs i ≡ None → joined found (hits (λ h. list_any (finds h) (drop i xs)) held) ≡ all
      → found ≡ all
  ends i found all e h = sym (joined_none found) ∙ ap (joined found) (sym (hits_past i e)) ∙ h

  pub ends_short : (i : ℕ) (found all : Hits) → length xs ≤ i → joined found (hits (λ h. list_any (finds h) (drop i xs)) held) ≡ all
      → found ≡ all
  ends_short i found all l h = sym (joined_none found) ∙ ap (joined found) (sym (hits_short i l)) ∙ h
