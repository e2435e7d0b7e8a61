-- Lists of items: what is read was spelled so, and what is spelled so is read; and how a loop reads one.
use Rattle.std.proofs.Common.{◌≡◌, ℕ, Bool, zero, suc, ◌+◌, ◌-◌, ◌≤◌, ◌<◌, true, false, List, [], ◌∷◌, ◌++◌}
use Rattle.std.proofs.Common.{length, take, Some, Result, Ok, Err, refl, sym, ap, subst, ◌∙◌, append_assoc, arith}
use Rattle.std.specs.Prelude.{slice_get}
use Rattle.std.specs.List.{flat_map}
use Rattle.std.proofs.lemmas.List.{append-nil, length-append, take_at, nil_from_length}
use Rattle.std.proofs.lemmas.List.Concat.{flat_map-cons}
use Rattle.std.proofs.lemmas.Bool.{eqb-true}
use Rattle.basil_types.specs.declared.reading.Fault.{Fault}
use Rattle.basil_types.specs.Steps.{◌>>=◌}
use Rattle.basil_types.specs.Lists.{items_at, AreItems, list_of, is_read, is_whole}
use Rattle.basil_types.specs.Texts.{IsBytes}
use Rattle.basil_types.proofs.Fields.{bind_ok, ok_is, moved, Takes, Takes-then}

-- what one reads was spelled so, and wide reads what is spelled so
pub record Reads {F V : Type 0} (one wide : F → List ℕ → Result (V × List ℕ) Fault) (spell : V → List ℕ)
    (Fit : F → V → Type 0) : Type 0 where
  pub takes : (f : F) (bytes : List ℕ) (x : V × List ℕ) → IsBytes bytes → one f bytes ≡ Ok x → Takes bytes (spell x.0) x.1 × Fit f x.0
  pub again : (f : F) (v : V) (rest : List ℕ) → Fit f v → wide f (spell v ++ rest) ≡ Ok (v, rest)

pub at-append : {V : Type 0} (xs : List V) (v : V) (ys : List V) → Some v ≡ slice_get (xs ++ v ∷ ys) (length xs)
at-append [] v ys = refl
at-append (x ∷ xs) v ys = at-append xs v ys

module _ {F V : Type 0} (one : F → List ℕ → Result (V × List ℕ) Fault) (next : V → F) where
  pub items-count : (k : ℕ) (floor : F) (bytes : List ℕ) (x : List V × List ℕ) → items_at one next k floor bytes ≡ Ok x → length x.0 ≡ k
  unfolding items_at
  items-count zero floor bytes x e = sym (ap (λ (y : List V × List ℕ). length y.0) (ok_is ([], bytes) x e))
  items-count (suc k) floor bytes x e =
      let a = bind_ok (one floor bytes)
      (λ first. items_at one next k (next first.0) first.1 >>= λ others. Ok (first.0 ∷ others.0, others.1)) x e in
      let b = bind_ok (items_at one next k (next a.0.0) a.0.1) (λ others. Ok (a.0.0 ∷ others.0, others.1)) x a.2 in
      let made : List V × List ℕ = (a.0.0 ∷ b.0.0, b.0.1) in
      moved (λ (y : List V × List ℕ). length y.0 ≡ suc k) made x b.2 (ap suc (items-count k (next a.0.0) a.0.1 b.0 b.1))

  pub whole-is : (k : ℕ) (floor : F) (bytes : List ℕ) → is_whole (items_at one next k floor bytes) ≡ true → items_at one next k floor bytes
      ≡ Ok (list_of (items_at one next k floor bytes), [])
  whole-is k floor bytes e = by (items_at one next k floor bytes) e
    where
      by : (r : Result (List V × List ℕ) Fault) → is_whole r ≡ true → r ≡ Ok (list_of r, [])
      by (Ok x) whole = ap (λ (t : List ℕ). Ok (x.0, t)) (nil_from_length x.1 (eqb-true _ _ whole))
      by (Err f) whole = absurd cc

  pub whole-count : (k : ℕ) (floor : F) (bytes : List ℕ) → is_whole (items_at one next k floor bytes) ≡ true → k ≡ length
      (list_of (items_at one next k floor bytes))
  whole-count k floor bytes e = sym (items-count k floor bytes (list_of (items_at one next k floor bytes), []) (whole-is k floor bytes e))

  pub read-is : (k : ℕ) (floor : F) (bytes : List ℕ) → is_read (items_at one next k floor bytes) ≡ true → (rest : List ℕ) ×
      (items_at one next k floor bytes ≡ Ok (list_of (items_at one next k floor bytes), rest))
  read-is k floor bytes e = by (items_at one next k floor bytes) e
    where
      by : (r : Result (List V × List ℕ) Fault) → is_read r ≡ true → (rest : List ℕ) × (r ≡ Ok (list_of r, rest))
      by (Ok x) some = (x.1, refl)
      by (Err f) some = absurd cc

  pub read-count : (k : ℕ) (floor : F) (bytes : List ℕ) → is_read (items_at one next k floor bytes) ≡ true → k ≡ length
      (list_of (items_at one next k floor bytes))
  read-count k floor bytes e =
      let r = read-is k floor bytes e in
      sym (items-count k floor bytes (list_of (items_at one next k floor bytes), r.0) r.1)

  pub whole-read : (k : ℕ) (floor : F) (bytes : List ℕ) → is_whole (items_at one next k floor bytes) ≡ true → is_read
      (items_at one next k floor bytes) ≡ true
  whole-read k floor bytes e = ap is_read (whole-is k floor bytes e)

  -- ---- a loop

  abbrev pub with_front : List V → Result (List V × List ℕ) Fault → Result (List V × List ℕ) Fault
  with_front front read = read >>= λ x. Ok (front ++ x.0, x.1)

  -- reading total goes on at rest with item i of count
  pub record GoesOn (count i : ℕ) (floor : F) (rest : List ℕ) (total : Result (List V × List ℕ) Fault) : Type 0 where
    pub front : List V
    pub len : length front ≡ i
    pub is : with_front front (items_at one next (count - i) floor rest) ≡ total

  regroup : (front : List V) (v : V) (read : Result (List V × List ℕ) Fault) → with_front front (read >>= λ x. Ok (v ∷ x.0, x.1))
      ≡ with_front (front ++ v ∷ []) read
  regroup front v (Ok x) = ap (λ (vs : List V). Ok (vs, x.1)) (simp append_assoc)
  regroup front v (Err f) = refl

  alone : (read : Result (List V × List ℕ) Fault) → with_front [] read ≡ read
  alone (Ok x) = refl
  alone (Err f) = refl

  pub begins : (count : ℕ) (floor : F) (rest : List ℕ) → GoesOn count 0 floor rest (items_at one next count floor rest)
  begins count floor rest = let k : count - 0 ≡ count =
      omega arith in record { front = []; len = refl; is = rw k (alone (items_at one next count floor rest)) }

  pub goes_on : (count i : ℕ) (floor : F) (rest : List ℕ) (v : V) (after : List ℕ) (total : Result (List V × List ℕ) Fault) → i < count →
      one floor rest ≡ Ok (v, after)
      → GoesOn count i floor rest total → GoesOn count (i + 1) (next v) after total
  unfolding items_at
  goes_on count i floor rest v after total lt h so_far =
      let k : count - i ≡ suc (count - (i + 1)) = omega arith in
      let step : with_front so_far.front (items_at one next (count - i) floor rest) ≡ with_front (so_far.front ++ v ∷ [])
      (items_at one next (count - (i + 1)) (next v) after) =
      rw (k, h) (regroup so_far.front v (items_at one next (count - (i + 1)) (next v) after)) in
      record {
        front = so_far.front ++ v ∷ [];
        len = omega (arith, so_far.len, length-append so_far.front (v ∷ []));
        is = sym step
            ∙ so_far.is;
      }

  pub ends : (count i : ℕ) (floor : F) (rest : List ℕ) (f : Fault) (total : Result (List V × List ℕ) Fault) → i < count → one floor rest
      ≡ Err f
      → GoesOn count i floor rest total → total ≡ Err f
  unfolding items_at
  ends count i floor rest f total lt h so_far =
      let k : count - i ≡ suc (count - (i + 1)) = omega arith in
      let step : with_front so_far.front (items_at one next (count - i) floor rest) ≡ Err f = rw (k, h) refl in
      sym so_far.is ∙ step

  pub is_done : (count i : ℕ) (floor : F) (rest : List ℕ) (total : Result (List V × List ℕ) Fault) → count ≤ i →
      (g : GoesOn count i floor rest total) → total ≡ Ok (g.front, rest)
  unfolding items_at
  is_done count i floor rest total le so_far =
      let k : count - i ≡ 0 = omega arith in
      let step : with_front so_far.front (items_at one next (count - i) floor rest) ≡ Ok (so_far.front, rest) =
      rw k (ap (λ (vs : List V). Ok (vs, rest)) (append-nil so_far.front)) in
      sym so_far.is ∙ step

  -- the item that a loop meets is the list's item there
  pub met : (count i : ℕ) (floor : F) (rest : List ℕ) (v : V) (after : List ℕ) (total : Result (List V × List ℕ) Fault) → i < count →
      one floor rest ≡ Ok (v, after)
      → GoesOn count i floor rest total → is_read total ≡ true → Some v ≡ slice_get (list_of total) i
  unfolding items_at
  met count i floor rest v after total lt h so_far whole = by (items_at one next (count - (i + 1)) (next v) after) refl
    where
      k : count - i ≡ suc (count - (i + 1))
      k = omega arith

      by : (others : Result (List V × List ℕ) Fault) → items_at one next (count - (i + 1)) (next v) after ≡ others → Some v ≡ slice_get
          (list_of total) i
      by (Ok o) was =
          let all : Result (List V × List ℕ) Fault = Ok (so_far.front ++ v ∷ o.0, o.1) in
          let step : with_front so_far.front (items_at one next (count - i) floor rest) ≡ all = rw (k, h, was) refl in
          let is : all ≡ total = sym step ∙ so_far.is in
          rw (← is, ← so_far.len) (at-append so_far.front v o.0)
      by (Err f) was =
          let none : Result (List V × List ℕ) Fault = Err f in
          let step : with_front so_far.front (items_at one next (count - i) floor rest) ≡ none = rw (k, h, was) refl in
          let is : none ≡ total = sym step ∙ so_far.is in
          let bad : false ≡ true = ap is_read is ∙ whole in
          absurd cc

  -- a list that is read is read to its end
  pub never_ends : (count i : ℕ) (floor : F) (rest : List ℕ) (f : Fault) (total : Result (List V × List ℕ) Fault) → i < count →
      one floor rest ≡ Err f
      → GoesOn count i floor rest total → is_read total ≡ true → ⊥
  never_ends count i floor rest f total lt h so_far whole =
      let bad : is_read total ≡ false = ap is_read (ends count i floor rest f total lt h so_far) in
      absurd cc

  pub reads-take : (wide : F → List ℕ → Result (V × List ℕ) Fault) (spell : V → List ℕ) (Fit : F → V → Type 0) → Reads one wide spell Fit
      → (k : ℕ) (floor : F) (bytes : List ℕ) (x : List V × List ℕ) → IsBytes bytes → items_at one next k floor bytes ≡ Ok x
      → Takes bytes (flat_map spell x.0) x.1 × (length x.0 ≡ k) × AreItems Fit next floor x.0
  unfolding items_at
  reads-take wide spell Fit reads zero floor bytes x fits e =
      subst (λ (y : List V × List ℕ). Takes bytes (flat_map spell y.0) y.1 × (length y.0 ≡ 0) × AreItems Fit next floor y.0)
      (ok_is ([], bytes) x e) (record { parts = refl; rest_fits = fits }, refl, tt)
  reads-take wide spell Fit reads (suc k) floor bytes x fits e =
      let a = bind_ok (one floor bytes)
      (λ first. items_at one next k (next first.0) first.1 >>= λ others. Ok (first.0 ∷ others.0, others.1)) x e in
      let b = bind_ok (items_at one next k (next a.0.0) a.0.1) (λ others. Ok (a.0.0 ∷ others.0, others.1)) x a.2 in
      let first = reads.takes floor bytes a.0 fits a.1 in
      let second = reads-take wide spell Fit reads k (next a.0.0) a.0.1 b.0 first.0.rest_fits b.1 in
      let both = Takes-then bytes (spell a.0.0) a.0.1 (flat_map spell b.0.0) b.0.1 first.0 second.0 in
      let made : List V × List ℕ = (a.0.0 ∷ b.0.0, b.0.1) in
      moved (λ (y : List V × List ℕ). Takes bytes (flat_map spell y.0) y.1 × (length y.0 ≡ suc k) × AreItems Fit next floor y.0) made x b.2
      (rw flat_map-cons both, ap suc second.1, (first.1, second.2))

  pub reads-again : (wide : F → List ℕ → Result (V × List ℕ) Fault) (spell : V → List ℕ) (Fit : F → V → Type 0) → Reads one wide spell Fit
      → (floor : F) (vs : List V) (rest : List ℕ) → AreItems Fit next floor vs → items_at wide next (length vs) floor
      (flat_map spell vs ++ rest) ≡ Ok (vs, rest)
  unfolding items_at
  reads-again wide spell Fit reads floor [] rest fits = refl
  reads-again wide spell Fit reads floor (v ∷ vs) rest fits =
      let regrouped : flat_map spell (v ∷ vs) ++ rest ≡ spell v ++ (flat_map spell vs ++ rest) =
      ap (λ (x : List ℕ). x ++ rest) (flat_map-cons spell v vs) ∙ append_assoc (spell v) (flat_map spell vs) rest in
      ap (items_at wide next (suc (length vs)) floor) regrouped ∙ rw
      (reads.again floor v (flat_map spell vs ++ rest) fits.0, reads-again wide spell Fit reads (next v) vs rest fits.1) refl

  pub is_shorter : (wide : F → List ℕ → Result (V × List ℕ) Fault) (spell : V → List ℕ) (Fit : F → V → Type 0) → Reads one wide spell Fit
      → (k : ℕ) (floor : F) (bytes : List ℕ) (x : List V × List ℕ) → IsBytes bytes → items_at one next k floor bytes ≡ Ok x →
      length x.1 ≤ length bytes
  is_shorter wide spell Fit reads k floor bytes x fits e =
      let t = reads-take wide spell Fit reads k floor bytes x fits e in
      omega (arith, ap length t.0.parts, length-append (flat_map spell x.0) x.1)

  -- what was taken is itself spelled, whatever followed it
  pub reads-cut : (wide : F → List ℕ → Result (V × List ℕ) Fault) (spell : V → List ℕ) (Fit : F → V → Type 0) → Reads one wide spell Fit
      → (k : ℕ) (floor : F) (bytes : List ℕ) (x : List V × List ℕ) → IsBytes bytes → items_at one next k floor bytes ≡ Ok x →
      items_at wide next k floor (take (length bytes - length x.1) bytes) ≡ Ok (x.0, [])
  reads-cut wide spell Fit reads k floor bytes x fits e =
      let t = reads-take wide spell Fit reads k floor bytes x fits e in
      let len : length bytes - length x.1 ≡ length (flat_map spell x.0) =
      omega (arith, ap length t.0.parts, length-append (flat_map spell x.0) x.1) in
      let cut : take (length bytes - length x.1) bytes ≡ flat_map spell x.0 ++ [] =
      rw (len, t.0.parts, append-nil) (take_at (flat_map spell x.0) x.1 (length (flat_map spell x.0)) refl) in
      rw (cut, ← t.1) (reads-again wide spell Fit reads floor x.0 [] t.2)

  -- the view of the bytes that were taken shows what was read
  pub cut-shows : (wide : F → List ℕ → Result (V × List ℕ) Fault) (spell : V → List ℕ) (Fit : F → V → Type 0) → Reads one wide spell Fit
      → (k i : ℕ) (floor last : F) (bytes rest : List ℕ) → IsBytes bytes → k ≤ i → GoesOn k i last rest (items_at one next k floor bytes)
      → items_at one next k floor bytes ≡ Ok (list_of (items_at wide next k floor (take (length bytes - length rest) bytes)), rest)
  cut-shows wide spell Fit reads k i floor last bytes rest fits le so_far =
      let total = is_done k i last rest (items_at one next k floor bytes) le so_far in
      let cut = reads-cut wide spell Fit reads k floor bytes (so_far.front, rest) fits total in
      total ∙ ap (λ (vs : List V). Ok (vs, rest)) (sym (ap list_of cut))

  -- ---- an iterator

  pub none_left : (k : ℕ) (floor : F) (rest : List ℕ) → k ≡ 0 → list_of (items_at one next k floor rest) ≡ []
  unfolding items_at
  none_left k floor rest e = rw e refl

  -- what is asked of a list, whole or begun, is told by the rest of it and never by a fault
  steps_by : (asked : Result (List V × List ℕ) Fault → Bool) → ((v : V) (x : List V × List ℕ) → asked (Ok (v ∷ x.0, x.1)) ≡ asked (Ok x))
      → ((f : Fault) → asked (Err f) ≡ false) → (k : ℕ) (floor : F) (rest : List ℕ) (v : V) (after : List ℕ) → (k ≡ 0 → ⊥)
      → one floor rest ≡ Ok (v, after) → asked (items_at one next k floor rest) ≡ true
      → (asked (items_at one next (k - 1) (next v) after) ≡ true) ×
      (list_of (items_at one next k floor rest) ≡ v ∷ list_of (items_at one next (k - 1) (next v) after))
  unfolding items_at
  steps_by asked front fault zero floor rest v after some h is = absurd (some refl)
  steps_by asked front fault (suc k) floor rest v after some h is =
      let e : suc k - 1 ≡ k = omega arith in
      let P : ℕ → Type 0 =
      λ j. (asked (items_at one next j (next v) after) ≡ true) ×
      (list_of (items_at one next (suc k) floor rest) ≡ v ∷ list_of (items_at one next j (next v) after)) in
      subst P (sym e) (by (items_at one next k (next v) after) refl)
    where
      by : (r : Result (List V × List ℕ) Fault) → items_at one next k (next v) after ≡ r
          → (asked (items_at one next k (next v) after) ≡ true) ×
          (list_of (items_at one next (suc k) floor rest) ≡ v ∷ list_of (items_at one next k (next v) after))
      by (Ok o) was =
          let all : Result (List V × List ℕ) Fault = Ok (v ∷ o.0, o.1) in
          let total : items_at one next (suc k) floor rest ≡ all = rw (h, was) refl in
          let w : asked (Ok o) ≡ true = sym (front v o) ∙ ap asked (sym total) ∙ is in
          (rw was w, rw (total, was) refl)
      by (Err f) was =
          let none : Result (List V × List ℕ) Fault = Err f in
          let total : items_at one next (suc k) floor rest ≡ none = rw (h, was) refl in
          let bad : false ≡ true = sym (fault f) ∙ ap asked (sym total) ∙ is in
          absurd cc

  fails_by : (asked : Result (List V × List ℕ) Fault → Bool) → ((f : Fault) → asked (Err f) ≡ false) → (k : ℕ) (floor : F) (rest : List ℕ)
      (f : Fault) → (k ≡ 0 → ⊥) → one floor rest ≡ Err f → asked (items_at one next k floor rest) ≡ true → ⊥
  unfolding items_at
  fails_by asked fault zero floor rest f some h is = some refl
  fails_by asked fault (suc k) floor rest f some h is =
      let none : Result (List V × List ℕ) Fault = Err f in
      let total : items_at one next (suc k) floor rest ≡ none = rw h refl in
      let bad : false ≡ true = sym (fault f) ∙ ap asked (sym total) ∙ is in
      absurd cc

  pub steps : (k : ℕ) (floor : F) (rest : List ℕ) (v : V) (after : List ℕ) → (k ≡ 0 → ⊥) → one floor rest ≡ Ok (v, after)
      → is_whole (items_at one next k floor rest) ≡ true
      → (is_whole (items_at one next (k - 1) (next v) after) ≡ true) ×
      (list_of (items_at one next k floor rest) ≡ v ∷ list_of (items_at one next (k - 1) (next v) after))
  steps = steps_by is_whole (λ v x. refl) (λ f. refl)

  pub never_fails : (k : ℕ) (floor : F) (rest : List ℕ) (f : Fault) → (k ≡ 0 → ⊥) → one floor rest ≡ Err f
      → is_whole (items_at one next k floor rest) ≡ true → ⊥
  never_fails = fails_by is_whole (λ f. refl)

  -- the same of a list with something behind it
  pub steps_on : (k : ℕ) (floor : F) (rest : List ℕ) (v : V) (after : List ℕ) → (k ≡ 0 → ⊥) → one floor rest ≡ Ok (v, after)
      → is_read (items_at one next k floor rest) ≡ true
      → (is_read (items_at one next (k - 1) (next v) after) ≡ true) ×
      (list_of (items_at one next k floor rest) ≡ v ∷ list_of (items_at one next (k - 1) (next v) after))
  steps_on = steps_by is_read (λ v x. refl) (λ f. refl)

  pub goes_wrong : (k : ℕ) (floor : F) (rest : List ℕ) (f : Fault) → (k ≡ 0 → ⊥) → one floor rest ≡ Err f
      → is_read (items_at one next k floor rest) ≡ true → ⊥
  goes_wrong = fails_by is_read (λ f. refl)
