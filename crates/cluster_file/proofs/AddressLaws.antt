-- The address beside a party, looked for from the front.
use Rattle.std.proofs.Common.{◌≡◌, ℕ, ◌+◌, ◌<◌, ◌≤◌, min, List, [], ◌∷◌, length, map, drop, get_or, false, Option, None}
use Rattle.std.proofs.Common.{String, string_bytes, refl, ap, ◌∙◌, arith, inl, inr}
use Rattle.std.specs.List.{zip}
use Rattle.std.specs.declared.alloc.Global.{Global}
use Rattle.std.proofs.lemmas.List.{drop_more, drop_all}
use Rattle.std.proofs.lemmas.Bool.{cases_lt}
use Rattle.basil_types.specs.declared.party.Party.{Party}
use Rattle.keyring_lms.specs.Keys.{is_same}
use Rattle.cluster_file.specs.Listing.{address_beside}

-- the address beside a party from this place on
abbrev pub from_place : List (Party × List ℕ) → List (String Global) → Party → ℕ → Option (List ℕ)
from_place publics addresses party place =
    address_beside (zip (drop place publics) (map string_bytes (drop place addresses))) party

record Next {A : Type 0} (xs : List A) (k : ℕ) : Type 0 where
  x : A
  is : drop k xs ≡ x ∷ drop (k + 1) xs

passed : (p : Party × List ℕ) (publics : List (Party × List ℕ)) (a : String Global) (addresses : List (String Global)) (party : Party)
    → is_same p.0 party ≡ false
    → address_beside (zip (p ∷ publics) (map string_bytes (a ∷ addresses))) party ≡ address_beside
    (zip publics (map string_bytes addresses)) party
passed p publics a addresses party other = rw other refl

next : {A : Type 0} (xs : List A) (k : ℕ) → k < length xs → Next xs k
next [] k h = absurd (omega arith)
next (x ∷ xs) k h = record { x = get_or (x ∷ xs) k x; is = drop_more (x ∷ xs) k x h }

pub skips : (publics : List (Party × List ℕ)) (addresses : List (String Global)) (party : Party) (place : ℕ) (p : Party × List ℕ)
    → place < length publics → place < length addresses → is_same (get_or publics place p).0 party ≡ false
    → from_place publics addresses party place ≡ from_place publics addresses party (place + 1)
skips publics addresses party place p in_publics in_addresses other =
    let address = next addresses place in_addresses in
    ap (λ (ps : List (Party × List ℕ)). address_beside (zip ps (map string_bytes (drop place addresses))) party)
    (drop_more publics place p in_publics)
    ∙ ap (λ (texts : List (String Global)). address_beside
    (zip (get_or publics place p ∷ drop (place + 1) publics) (map string_bytes texts)) party) address.is
    ∙ passed (get_or publics place p) (drop (place + 1) publics) address.x (drop (place + 1) addresses) party other

zip-nil : (publics : List (Party × List ℕ)) (party : Party) → address_beside (zip publics []) party ≡ None
zip-nil [] party = refl
zip-nil (p ∷ ps) party = refl

pub ends : (publics : List (Party × List ℕ)) (addresses : List (String Global)) (party : Party) (place : ℕ)
    → min (length publics) (length addresses) ≤ place → from_place publics addresses party place ≡ None
ends publics addresses party place h = elim (cases_lt place (length publics)) [
  | inl more ↦
      ap (λ (texts : List (String Global)). address_beside (zip (drop place publics) (map string_bytes texts)) party)
      (drop_all place addresses (omega arith))
      ∙ zip-nil (drop place publics) party
  | inr done ↦
      ap (λ (ps : List (Party × List ℕ)). address_beside (zip ps (map string_bytes (drop place addresses))) party)
      (drop_all place publics done)
]
