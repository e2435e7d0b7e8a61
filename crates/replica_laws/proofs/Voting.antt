-- One vote on each transaction: what is signed, and which entries have a vote.
use Rattle.std.proofs.Common.{◌≡◌, ℕ, zero, suc, ◌+◌, Bool, true, false, cond, List, [], ◌∷◌, ◌++◌, length, length-append, append-nil}
use Rattle.std.proofs.Common.{rules, Option, Some, None, refl, sym, ap, subst, ◌∙◌, ◌⊎◌, inl, inr, arith}
use Rattle.std.specs.Prelude.{slice_get, slice_set, is_some, if◌then◌else◌, filter, option_map}
use Rattle.std.specs.Option.{option_map_or}
use Rattle.std.specs.Str.{bytes_eq}
use Rattle.std.proofs.lemmas.Bool.{cases_Bool, cases_eq}
use Rattle.std.proofs.lemmas.List.Elements.{filter-append}
use Rattle.std.proofs.lemmas.Option.{same_Some}
use Rattle.basil_types.specs.Transaction.{TransactionValue, id}
use Rattle.basil_types.specs.Words.{SignedWords, VoteOf, VoteWords}
use Rattle.txn_table.specs.Entries.{EntryValue, arrived, voted}
use Rattle.txn_table.specs.Laws.{IdsTellPlaces, KeepsTransactions}
use Rattle.txn_table.specs.Tables.{changed, id_of, place_of}
use Rattle.replica_core.specs.Known.{changed_at, with_known}
use Rattle.replica_laws.specs.Steps.{Grows, is_vote_on, votes_on}
use Rattle.replica_laws.proofs.Growing.{IsOpen, got_last, other_stays, set_same}

-- each known transaction stands at the place of its id
abbrev pub Placed : List EntryValue → Type 0
Placed es = (p : ℕ) (e : EntryValue) → slice_get es p ≡ Some e → place_of es (id_of e) ≡ Some p

-- a known transaction of this id has a vote
abbrev pub VotedOn : List EntryValue → List ℕ → Type 0
VotedOn es x = (p : ℕ) × (e : EntryValue) × (slice_get es p ≡ Some e) × (id_of e ≡ x) × (IsOpen e → ⊥)

-- no vote on a transaction was signed, or one, and it has it
pub record Once (es : List EntryValue) (ws : List SignedWords) : Type 0 where
  pub placed : Placed es
  pub once : (x : List ℕ) → (votes_on x ws ≡ 0) ⊎ ((votes_on x ws ≡ 1) × VotedOn es x)

-- ---- places

got_cases : (es : List EntryValue) (a : EntryValue) (p : ℕ) (e : EntryValue) → slice_get (es ++ a ∷ []) p ≡ Some e →
    (slice_get es p ≡ Some e) ⊎ ((p ≡ length es) × (e ≡ a))
got_cases [] a zero e h = inr (refl, sym (same_Some a e h))
got_cases [] a (suc p) e h = absurd cc
got_cases (x ∷ es) a zero e h = inl h
got_cases (x ∷ es) a (suc p) e h = elim (got_cases es a p e h) [
  | inl here ↦ inl here
  | inr last ↦ inr (ap suc last.0, last.1)
]

module _ (laws : IdsTellPlaces) where
  pub placed_known : (es : List EntryValue) (t : TransactionValue) → Placed es → Placed (with_known es t)
  placed_known es t placed = by (place_of es (id t)) refl
    where
      by : (o : Option ℕ) → place_of es (id t) ≡ o → Placed (if is_some o then es else es ++ arrived t ∷ [])
      by (Some p) there = placed
      by None there = λ p e h. elim (got_cases es (arrived t) p e h) [
        | inl here ↦ laws.stays es t (id_of e) p (placed p e here)
        | inr last ↦ ap (λ (x : EntryValue). place_of (es ++ arrived t ∷ []) (id_of x)) last.1 ∙ laws.arrives es t there
            ∙ ap Some (sym last.0)
      ]

  pub placed_changed : (f : EntryValue → EntryValue) (place : ℕ) (es : List EntryValue) → KeepsTransactions f → Placed es →
      Placed (changed f place es)
  placed_changed f place es keeps placed p e h = elim (cases_eq p place) [
    | inr n ↦ laws.unmoved f es place (id_of e) keeps ∙ placed p e (sym (other_stays f place es p n) ∙ h)
    | inl same ↦ by same (slice_get es place) refl
  ]
    where
      by : p ≡ place → (o : Option EntryValue) → slice_get es place ≡ o → place_of (changed f place es) (id_of e) ≡ Some p
      by same None there =
          let is : changed f place es ≡ es = ap (λ o. option_map_or (λ (e : EntryValue). slice_set es place (f e)) o es) there in
          ap (λ l. place_of l (id_of e)) is ∙ placed p e (ap (λ l. slice_get l p) (sym is) ∙ h)
      by same (Some d) there =
          let set : changed f place es ≡ slice_set es place (f d) =
          ap (λ o. option_map_or (λ (e : EntryValue). slice_set es place (f e)) o es) there in
          let e_is : f d ≡ e = same_Some _ _ (sym (ap (λ l. slice_get l place) set ∙ set_same es place d (f d) there)
          ∙ ap (slice_get (changed f place es)) (sym same) ∙ h) in
          let named : id_of e ≡ id_of d = ap id_of (sym e_is) ∙ ap id (keeps d) in
          laws.unmoved f es place (id_of e) keeps ∙ ap (place_of es) named ∙ placed place d there ∙ ap Some (sym same)

  pub placed_at : (f : EntryValue → EntryValue) (x : List ℕ) (es : List EntryValue) → KeepsTransactions f → Placed es →
      Placed (changed_at f x es)
  placed_at f x es keeps placed = by (place_of es x)
    where
      by : (o : Option ℕ) → Placed (option_map_or (λ place. changed f place es) o es)
      by None = placed
      by (Some place) = placed_changed f place es keeps placed

  -- where a transaction stands once it is known
  pub known_at : (es : List EntryValue) (t : TransactionValue) → (p : ℕ) × (e : EntryValue) ×
      (place_of (with_known es t) (id t) ≡ Some p) × (slice_get (with_known es t) p ≡ Some e)
  known_at es t = by (place_of es (id t)) refl
    where
      there : (p : ℕ) (o : Option EntryValue) → slice_get es p ≡ o → option_map id_of o ≡ Some (id t) → place_of es (id t) ≡ Some p →
          (q : ℕ) × (e : EntryValue) × (place_of es (id t) ≡ Some q) × (slice_get es q ≡ Some e)
      there p None h n i = absurd cc
      there p (Some e) h n i = (p, e, i, h)

      by : (o : Option ℕ) → place_of es (id t) ≡ o → (p : ℕ) × (e : EntryValue) ×
          (place_of (if is_some o then es else es ++ arrived t ∷ []) (id t) ≡ Some p) ×
          (slice_get (if is_some o then es else es ++ arrived t ∷ []) p ≡ Some e)
      by (Some p) i = there p (slice_get es p) refl (laws.found es (id t) p i) i
      by None i = (length es, arrived t, laws.arrives es t i, got_last es (arrived t))

-- ---- votes

votes_append : (x : List ℕ) (ws more : List SignedWords) → votes_on x (ws ++ more) ≡ votes_on x ws + votes_on x more
votes_append x ws more = ap length (filter-append (is_vote_on x) ws more)
    ∙ length-append (filter (is_vote_on x) ws) (filter (is_vote_on x) more)

voted_grows : (es new : List EntryValue) (x : List ℕ) → Grows es new → VotedOn es x → VotedOn new x
voted_grows es new x grows v =
    let y = grows v.0 v.1 v.2 in
    (v.0, y.0, y.1, ap id y.2.text ∙ v.3, λ o. v.4 (λ d s p h. o d s p (y.2.vote d s p h)))

-- nothing that is signed is a vote
pub once_grows : (es new : List EntryValue) (ws more : List SignedWords) → Grows es new → Placed new →
    ((x : List ℕ) → votes_on x more ≡ 0) → Once es ws → Once new (ws ++ more)
once_grows es new ws more grows placed none o = record { placed = placed; once = λ x. by x (o.once x) }
  where
    by : (x : List ℕ) → (votes_on x ws ≡ 0) ⊎ ((votes_on x ws ≡ 1) × VotedOn es x) →
        (votes_on x (ws ++ more) ≡ 0) ⊎ ((votes_on x (ws ++ more) ≡ 1) × VotedOn new x)
    by x (inl zero_so) = let sum = votes_append x ws more in let n = none x in inl (omega (arith, sum, n, zero_so))
    by x (inr one) =
        let sum = votes_append x ws more in let n = none x in let w = one.0 in
        inr (omega (arith, sum, n, w), voted_grows es new x grows one.1)

same_bytes : (x y : List ℕ) → bytes_eq x y ≡ true → x ≡ y
same_bytes x y h = search rules

-- a vote on an entry without one
pub once_votes : (es new : List EntryValue) (ws : List SignedWords) (w : SignedWords) (y : List ℕ) (p : ℕ) (e f : EntryValue) →
    Grows es new → Placed new → slice_get es p ≡ Some e → IsOpen e → id_of e ≡ y → slice_get new p ≡ Some f → id_of f ≡ y →
    (IsOpen f → ⊥) → ((x : List ℕ) → is_vote_on x w ≡ bytes_eq y x) → Once es ws → Once new (ws ++ w ∷ [])
once_votes es new ws w y p e f grows placed at unvoted named then_at then_named has word o =
    record {
      placed = placed;
      once = λ x. elim (cases_Bool (bytes_eq y x)) [
        | inl same ↦ this x same (o.once x)
        | inr other ↦ other_one x other (o.once x)
      ];
    }
  where
    counted : (x : List ℕ) (b : Bool) → bytes_eq y x ≡ b → votes_on x (w ∷ []) ≡ cond b 1 0
    counted x true h = ap (λ b. length (cond b (w ∷ []) [])) (word x ∙ h)
    counted x false h = ap (λ b. length (cond b (w ∷ []) [])) (word x ∙ h)

    this : (x : List ℕ) → bytes_eq y x ≡ true → (votes_on x ws ≡ 0) ⊎ ((votes_on x ws ≡ 1) × VotedOn es x) →
        (votes_on x (ws ++ w ∷ []) ≡ 0) ⊎ ((votes_on x (ws ++ w ∷ []) ≡ 1) × VotedOn new x)
    this x same (inl zero_so) =
        let sum = votes_append x ws (w ∷ []) in let n = counted x true same in
        inr (omega (arith, sum, n, zero_so), (p, f, then_at, then_named ∙ same_bytes y x same, has))
    this x same (inr one) =
        let v = one.1 in
        let q : Some v.0 ≡ Some p = sym (o.placed v.0 v.1 v.2) ∙ ap (place_of es) (v.3 ∙ sym (same_bytes y x same) ∙ sym named)
        ∙ o.placed p e at in
        let is : v.1 ≡ e = same_Some _ _ (sym v.2 ∙ ap (slice_get es) (same_Some _ _ q) ∙ at) in
        absurd (v.4 (subst IsOpen (sym is) unvoted))

    other_one : (x : List ℕ) → bytes_eq y x ≡ false → (votes_on x ws ≡ 0) ⊎ ((votes_on x ws ≡ 1) × VotedOn es x) →
        (votes_on x (ws ++ w ∷ []) ≡ 0) ⊎ ((votes_on x (ws ++ w ∷ []) ≡ 1) × VotedOn new x)
    other_one x other (inl zero_so) =
        let sum = votes_append x ws (w ∷ []) in let n = counted x false other in inl (omega (arith, sum, n, zero_so))
    other_one x other (inr one) =
        let sum = votes_append x ws (w ∷ []) in let n = counted x false other in let k = one.0 in
        inr (omega (arith, sum, n, k), voted_grows es new x grows one.1)

pub once_known : IdsTellPlaces → (es : List EntryValue) (t : TransactionValue) (ws : List SignedWords) → Grows es (with_known es t)
    → Once es ws →
    Once (with_known es t) ws
once_known laws es t ws grows o =
    subst (Once (with_known es t)) (append-nil ws)
    (once_grows es (with_known es t) ws [] grows (placed_known laws es t o.placed) (λ x. refl) o)

-- a vote at a place
pub once_at : IdsTellPlaces
    → (es : List EntryValue) (place : ℕ) (e : EntryValue) (ws : List SignedWords) (v : VoteOf) (s : List ℕ) (proof : Option ℕ) →
    Grows es (changed (voted v.decision s proof) place es) → slice_get es place ≡ Some e → IsOpen e → v.id ≡ id_of e → Once es ws →
    Once (changed (voted v.decision s proof) place es) (ws ++ VoteWords v ∷ [])
once_at laws es place e ws v s proof grows at unvoted named o =
    let f : EntryValue = voted v.decision s proof e in
    let new = changed (voted v.decision s proof) place es in
    let set : new ≡ slice_set es place f = ap
    (λ o. option_map_or (λ (e : EntryValue). slice_set es place (voted v.decision s proof e)) o es) at in
    once_votes es new ws (VoteWords v) (id_of e) place e f grows
    (placed_changed laws (voted v.decision s proof) place es (λ e. refl) o.placed)
    at unvoted refl (ap (λ l. slice_get l place) set ∙ set_same es place e f at) refl (λ o. o v.decision s proof refl)
    (λ x. ap (λ (y : List ℕ). bytes_eq y x) named) o
