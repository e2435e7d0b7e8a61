-- Entries by place.
use Rattle.std.proofs.Common.{◌≡◌, ℕ, zero, suc, ◌+◌, false, cond, List, [], ◌∷◌, Option, Some, None, refl, sym, ap, subst, ◌∙◌, inl, inr}
use Rattle.std.proofs.Common.{arith}
use Rattle.std.specs.Prelude.{option_map, option_and_then, position, slice_get, slice_set}
use Rattle.std.specs.Option.{option_map_or}
use Rattle.std.specs.List.{IsDistinct}
use Rattle.std.specs.Str.{bytes_eq}
use Rattle.std.proofs.lemmas.Bool.{cases_eq}
use Rattle.std.proofs.lemmas.Map.Keys.{IsDistinct-head, IsDistinct-tail}
use Rattle.basil_types.specs.declared.party.Decision.{Decision}
use Rattle.basil_types.specs.Transaction.{TransactionValue, id}
use Rattle.txn_table.specs.Entries.{EntryValue, decision_of}
use Rattle.txn_table.specs.Tables.{id_of, ids_of, place_of, changed, entry_with}
use Rattle.replica_core.specs.Known.{changed_at}
use Rattle.cluster_run.specs.Settings.{Lookup}
use Rattle.cluster_run.specs.Acting.{FindsEach}
use Rattle.cluster_run.proofs.Finding.{position-cons, same_self, not_same}

pub got_same : (es : List EntryValue) (p : ℕ) (e x : EntryValue) → slice_get es p ≡ Some e → slice_get (slice_set es p x) p ≡ Some x
got_same [] p e x h = absurd cc
got_same (d ∷ es) zero e x h = refl
got_same (d ∷ es) (suc p) e x h = got_same es p e x h

pub got_other : (es : List EntryValue) (p q : ℕ) (x : EntryValue) → (q ≡ p → ⊥) → slice_get (slice_set es p x) q ≡ slice_get es q
got_other [] p q x n = refl
got_other (d ∷ es) zero zero x n = absurd (n refl)
got_other (d ∷ es) zero (suc q) x n = refl
got_other (d ∷ es) (suc p) zero x n = refl
got_other (d ∷ es) (suc p) (suc q) x n = got_other es p q x (λ e. n (ap suc e))

pub ids_set : (es : List EntryValue) (p : ℕ) (e x : EntryValue) → slice_get es p ≡ Some e → x.transaction ≡ e.transaction →
    ids_of (slice_set es p x) ≡ ids_of es
ids_set [] p e x h k = refl
ids_set (d ∷ es) zero e x h k =
    let is : d ≡ e = cc in
    ap (λ (t : TransactionValue). id t ∷ ids_of es) (k ∙ sym (ap (λ (z : EntryValue). z.transaction) is))
ids_set (d ∷ es) (suc p) e x h k = ap (λ l. id_of d ∷ l) (ids_set es p e x h k)

pub looked_set : (tx : Lookup) (es : List EntryValue) (p : ℕ) (e x : EntryValue) → slice_get es p ≡ Some e → x.transaction ≡ e.transaction →
    FindsEach tx es → FindsEach tx (slice_set es p x)
looked_set tx [] p e x h k l = tt
looked_set tx (d ∷ es) zero e x h k l =
    let is : d ≡ e = cc in
    (subst (λ (t : TransactionValue). tx (id t) ≡ t) (ap (λ (z : EntryValue). z.transaction) is ∙ sym k) l.0, l.1)
looked_set tx (d ∷ es) (suc p) e x h k l = (l.0, looked_set tx es p e x h k l.1)

-- ---- distinct ids

apart_got : (x : List ℕ) (es : List EntryValue) (p : ℕ) (e : EntryValue) →
    Rattle.std.specs.List.AllByRecursion (λ y. bytes_eq x y ≡ false) (ids_of es) → slice_get es p ≡ Some e → bytes_eq x (id_of e) ≡ false
apart_got x [] p e a h = absurd cc
apart_got x (d ∷ es) zero e a h = let is : d ≡ e = cc in ap (λ (z : EntryValue). bytes_eq x (id_of z)) (sym is) ∙ a.0
apart_got x (d ∷ es) (suc p) e a h = apart_got x es p e a.1 h

-- an entry stands at the place of its id
pub place_got : (es : List EntryValue) (p : ℕ) (e : EntryValue) → IsDistinct bytes_eq (ids_of es) → slice_get es p ≡ Some e →
    place_of es (id_of e) ≡ Some p
place_got [] p e a h = absurd cc
place_got (d ∷ es) zero e a h =
    let is : d ≡ e = cc in
    position-cons (bytes_eq (id_of e)) (id_of d) (ids_of es)
    ∙ ap (λ b. cond b (Some 0) (option_map (λ k. k + 1) (position (bytes_eq (id_of e)) (ids_of es))))
    (ap (λ (z : EntryValue). bytes_eq (id_of e) (id_of z)) is ∙ same_self (id_of e))
place_got (d ∷ es) (suc p) e a h =
    let i : p + 1 ≡ suc p = omega arith in
    position-cons (bytes_eq (id_of e)) (id_of d) (ids_of es)
    ∙ ap (λ b. cond b (Some 0) (option_map (λ k. k + 1) (position (bytes_eq (id_of e)) (ids_of es))))
    (not_same (id_of d) (id_of e) (apart_got (id_of d) es p e (IsDistinct-head bytes_eq (id_of d) (ids_of es) a) h))
    ∙ ap (option_map (λ k. k + 1)) (place_got es p e (IsDistinct-tail bytes_eq (id_of d) (ids_of es) a) h)
    ∙ ap Some i

pub entry_got : (es : List EntryValue) (p : ℕ) (e : EntryValue) → IsDistinct bytes_eq (ids_of es) → slice_get es p ≡ Some e →
    entry_with es (id_of e) ≡ Some e
entry_got es p e a h = ap (option_and_then (slice_get es)) (place_got es p e a h) ∙ h

-- a change at a place is one of its id
pub changed_got : (f : EntryValue → EntryValue) (es : List EntryValue) (p : ℕ) (e : EntryValue) → IsDistinct bytes_eq (ids_of es) →
    slice_get es p ≡ Some e → changed_at f (id_of e) es ≡ changed f p es
changed_got f es p e a h = ap (λ (o : Option ℕ). option_map_or (λ place. changed f place es) o es) (place_got es p e a h)

-- ---- outcomes of ids

abbrev pub outcome_of_id : List EntryValue → List ℕ → Option Decision
outcome_of_id es x = option_and_then decision_of (entry_with es x)

-- where the ids and the outcomes at all places are the same, so are those of all ids
pub outcomes_same : (es fs : List EntryValue) → ids_of fs ≡ ids_of es →
    ((q : ℕ) → option_and_then decision_of (slice_get fs q) ≡ option_and_then decision_of (slice_get es q)) → (x : List ℕ) →
    outcome_of_id fs x ≡ outcome_of_id es x
outcomes_same es fs i h x = by (place_of es x) (ap (position (bytes_eq x)) i)
  where
    by : (o : Option ℕ) → place_of fs x ≡ o → option_and_then decision_of (option_and_then (slice_get fs) (place_of fs x))
        ≡ option_and_then decision_of (option_and_then (slice_get es) o)
    by None e = ap (λ (o : Option ℕ). option_and_then decision_of (option_and_then (slice_get fs) o)) e
    by (Some q) e = ap (λ (o : Option ℕ). option_and_then decision_of (option_and_then (slice_get fs) o)) e ∙ h q

pub outcomes_set : (es : List EntryValue) (p : ℕ) (e x : EntryValue) → slice_get es p ≡ Some e → decision_of x ≡ decision_of e → (q : ℕ) →
    option_and_then decision_of (slice_get (slice_set es p x) q) ≡ option_and_then decision_of (slice_get es q)
outcomes_set es p e x h k q = elim (cases_eq q p) [
  | inl i ↦
      ap (λ (n : ℕ). option_and_then decision_of (slice_get (slice_set es p x) n)) i
      ∙ ap (option_and_then decision_of) (got_same es p e x h) ∙ k
      ∙ sym (ap (λ (n : ℕ). option_and_then decision_of (slice_get es n)) i ∙ ap (option_and_then decision_of) h)
  | inr n ↦ ap (option_and_then decision_of) (got_other es p q x n)
]
