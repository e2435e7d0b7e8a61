-- Seats, taken one after another.
use Rattle.std.proofs.Common.{◌≡◌, ℕ, ◌+◌, ◌<◌, List, [], ◌∷◌, ◌++◌, length, map, take, drop, get_or, Bool, true, false}
use Rattle.std.proofs.Common.{◌&&◌, Some, None, if◌then◌else◌, refl, sym, ap, ◌∙◌, append_assoc}
use Rattle.std.proofs.lemmas.List.{drop_more, take_more, append-nil, map-append}
use Rattle.std.specs.List.{list_all}
use Rattle.basil_types.specs.declared.party.Party.{Party}
use Rattle.cluster_file.specs.Seats.{SeatValue, parties_of}

-- the first `k` are seated, and each of them passes
pub record Adds {A : Type 0} (p : Party → Bool) (seat : A → SeatValue) (xs : List A) (old new : List SeatValue) (k : ℕ) : Type 0 where
  pub known : list_all p (parties_of (map seat xs)) ≡ list_all p (parties_of (map seat (drop k xs)))
  pub added : new ≡ old ++ map seat (take k xs)

pub begins : {A : Type 0} (p : Party → Bool) (seat : A → SeatValue) (xs : List A) (old : List SeatValue) → Adds p seat xs old old 0
begins p seat xs old = record { known = refl; added = sym (append-nil old) }

here : {A : Type 0} (xs : List A) (k : ℕ) (x : A) → k < length xs → x ≡ get_or xs k x → drop k xs ≡ x ∷ drop (k + 1) xs
here xs k x h is = drop_more xs k x h ∙ ap (λ y. y ∷ drop (k + 1) xs) (sym is)

one_longer : {A : Type 0} (seat : A → SeatValue) (xs : List A) (k : ℕ) (x : A) → k < length xs → x ≡ get_or xs k x
    → map seat (take (k + 1) xs) ≡ map seat (take k xs) ++ seat x ∷ []
one_longer seat xs k x h is =
    ap (map seat) (take_more xs k x h ∙ ap (λ y. take k xs ++ y ∷ []) (sym is)) ∙ map-append seat (take k xs) (x ∷ [])

pub goes_on : {A : Type 0} (p : Party → Bool) (seat : A → SeatValue) (xs : List A) (old new : List SeatValue) (k : ℕ) (x : A)
    → k < length xs → x ≡ get_or xs k x → p (seat x).party ≡ true → Adds p seat xs old new k
    → Adds p seat xs old (new ++ seat x ∷ []) (k + 1)
goes_on p seat xs old new k x h is passes a = record {
  known = a.known ∙ ap (λ ys. list_all p (parties_of (map seat ys))) (here xs k x h is)
      ∙ ap (λ b. b && list_all p (parties_of (map seat (drop (k + 1) xs)))) passes;
  added = ap (λ ys. ys ++ seat x ∷ []) a.added ∙ append_assoc old (map seat (take k xs)) (seat x ∷ [])
      ∙ ap (λ ys. old ++ ys) (sym (one_longer seat xs k x h is));
}

pub fails : {A : Type 0} (p : Party → Bool) (seat : A → SeatValue) (xs : List A) (old new : List SeatValue) (k : ℕ) (x : A)
    → k < length xs → x ≡ get_or xs k x → p (seat x).party ≡ false → Adds p seat xs old new k
    → list_all p (parties_of (map seat xs)) ≡ false
fails p seat xs old new k x h is refuses a =
    a.known ∙ ap (λ ys. list_all p (parties_of (map seat ys))) (here xs k x h is)
    ∙ ap (λ b. b && list_all p (parties_of (map seat (drop (k + 1) xs)))) refuses

-- seats that are read are the file's, and each passes
pub seated : (all : Bool) (seats expected : List SeatValue) → Some seats ≡ (if all then Some expected else None)
    → (all ≡ true) × (seats ≡ expected)
seated true seats expected e = (refl, cc)
seated false seats expected e = absurd cc
