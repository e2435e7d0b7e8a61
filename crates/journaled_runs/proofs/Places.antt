-- The journal of a replica is found, and put at its place.
use Rattle.std.proofs.Common.{◌≡◌, ◌∙◌, ℕ, ◌==◌, Bool, true, false, cond, List, [], ◌∷◌, refl, sym, ap, subst}
use Rattle.std.proofs.lemmas.Bool.{eqb-true, eq-eqb}
use Rattle.std.proofs.lemmas.Option.{same_Some}
use Rattle.std.specs.Prelude.{◌&&◌, Option, Some, None, find, is_some}
use Rattle.run_journals.specs.Journals.{JournalValue, is_its, journal_at, put_journal}

-- ---- what is found

pub found_so : {X : Type 0} (p : X → Bool) (xs : List X) (x : X) → find p xs ≡ Some x → p x ≡ true
found_so p [] x h = absurd cc
found_so p (y ∷ ys) x h = by (found_so p ys x) (p y) refl h
  where
    by : (find p ys ≡ Some x → p x ≡ true) → (t : Bool) → p y ≡ t → cond t (Some y) (find p ys) ≡ Some x → p x ≡ true
    by later true e k = subst (λ z. p z ≡ true) (same_Some y x k) e
    by later false e k = later k

-- there is one, or none
pub one_or : {X : Type 0} (o : Option X) → is_some o ≡ true → (x : X) × (o ≡ Some x)
one_or (Some x) h = (x, refl)
one_or None h = absurd cc

pub none_of : {X : Type 0} (o : Option X) → is_some o ≡ false → o ≡ None
none_of (Some x) h = absurd cc
none_of None h = refl

pub not_none : {X : Type 0} (o : Option X) (x : X) → o ≡ Some x → o ≡ None → ⊥
not_none o x e f = cc

-- ---- places

-- at this place
pub record IsThere (shard index : ℕ) (j : JournalValue) : Type 0 where
  pub shard_is : j.shard ≡ shard
  pub index_is : j.index ≡ index

pub both : (a b : Bool) → (a && b) ≡ true → (a ≡ true) × (b ≡ true)
both true b h = (refl, h)
both false b h = absurd cc

pub same_place : (a b c d : ℕ) → ((a == c) && (b == d)) ≡ true → (a ≡ c) × (b ≡ d)
same_place a b c d h = let e = both (a == c) (b == d) h in (eqb-true a c e.0, eqb-true b d e.1)

pub is_there : (shard index : ℕ) (j : JournalValue) → is_its shard index j ≡ true → IsThere shard index j
is_there shard index j h =
    let e = same_place j.shard j.index shard index h in record { shard_is = e.0; index_is = e.1 }

pub found_there : (js : List JournalValue) (shard index : ℕ) (j : JournalValue) → journal_at js shard index ≡ Some j →
    IsThere shard index j
found_there js shard index j h = is_there shard index j (found_so (is_its shard index) js j h)

-- it is found at its own place
pub found_own : (js : List JournalValue) (shard index : ℕ) (j : JournalValue) → journal_at js shard index ≡ Some j →
    journal_at js j.shard j.index ≡ Some j
found_own js shard index j h =
    let here = found_there js shard index j h in
    ap (λ (n : ℕ). journal_at js n j.index) here.shard_is ∙ ap (λ (n : ℕ). journal_at js shard n) here.index_is ∙ h

-- one at the place of another passes the same test
pub same_test : (shard index : ℕ) (k y : JournalValue) → is_its k.shard k.index y ≡ true → is_its shard index y ≡ is_its shard index k
same_test shard index k y h =
    let here = is_there k.shard k.index y h in
    ap (λ (n : ℕ). (n == shard) && (y.index == index)) here.shard_is
    ∙ ap (λ (n : ℕ). (k.shard == shard) && (n == index)) here.index_is

-- ---- what is put

-- at another place all is as before
pub put_other : (k : JournalValue) (js : List JournalValue) (shard index : ℕ) → is_its shard index k ≡ false →
    journal_at (put_journal k js) shard index ≡ journal_at js shard index
put_other k [] shard index h = refl
put_other k (y ∷ ys) shard index h = by (is_its k.shard k.index y) refl (put_other k ys shard index h)
  where
    by : (t : Bool) → is_its k.shard k.index y ≡ t → journal_at (put_journal k ys) shard index ≡ journal_at ys shard index →
        journal_at (cond t (k ∷ ys) (y ∷ put_journal k ys)) shard index
        ≡ cond (is_its shard index y) (Some y) (journal_at ys shard index)
    by true e later =
        ap (λ b. cond b (Some k) (journal_at ys shard index)) h
        ∙ sym (ap (λ b. cond b (Some y) (journal_at ys shard index)) (same_test shard index k y e ∙ h))
    by false e later = ap (λ o. cond (is_its shard index y) (Some y) o) later

-- at its own, where there was one, it is found
pub put_found : (k : JournalValue) (js : List JournalValue) (shard index : ℕ) (j : JournalValue) →
    is_its shard index k ≡ true → journal_at js shard index ≡ Some j → journal_at (put_journal k js) shard index ≡ Some k
put_found k [] shard index j h found = absurd cc
put_found k (y ∷ ys) shard index j h found = by (put_found k ys shard index j h) (is_its k.shard k.index y) refl
  where
    here : IsThere shard index k
    here = is_there shard index k h

    off : is_its k.shard k.index y ≡ false → is_its shard index y ≡ false
    off e = ap (λ (n : ℕ). is_its n index y) (sym here.shard_is) ∙ ap (λ (n : ℕ). is_its k.shard n y) (sym here.index_is) ∙ e

    by : (journal_at ys shard index ≡ Some j → journal_at (put_journal k ys) shard index ≡ Some k) →
        (t : Bool) → is_its k.shard k.index y ≡ t → journal_at (cond t (k ∷ ys) (y ∷ put_journal k ys)) shard index ≡ Some k
    by later true e = ap (λ b. cond b (Some k) (journal_at ys shard index)) h
    by later false e =
        ap (λ b. cond b (Some y) (journal_at (put_journal k ys) shard index)) (off e)
        ∙ later (sym (ap (λ b. cond b (Some y) (journal_at ys shard index)) (off e)) ∙ found)

-- what is found is put where it is
pub put_own : (k : JournalValue) (js : List JournalValue) → journal_at js k.shard k.index ≡ Some k → put_journal k js ≡ js
put_own k [] found = refl
put_own k (y ∷ ys) found = by (put_own k ys) (is_its k.shard k.index y) refl found
  where
    by : (journal_at ys k.shard k.index ≡ Some k → put_journal k ys ≡ ys) → (t : Bool) → is_its k.shard k.index y ≡ t →
        cond t (Some y) (journal_at ys k.shard k.index) ≡ Some k → cond t (k ∷ ys) (y ∷ put_journal k ys) ≡ y ∷ ys
    by later true e h = ap (λ z. z ∷ ys) (sym (same_Some y k h))
    by later false e h = ap (λ l. y ∷ l) (later h)

-- what is put over another one of its place
pub put_over : (k l : JournalValue) (js : List JournalValue) → l.shard ≡ k.shard → l.index ≡ k.index →
    put_journal l (put_journal k js) ≡ put_journal l js
put_over k l [] e f = refl
put_over k l (y ∷ ys) e f = by (put_over k l ys e f) (is_its k.shard k.index y) refl
  where
    on : is_its l.shard l.index k ≡ true
    on = ap (λ b. b && (k.index == l.index)) (eq-eqb k.shard l.shard (sym e)) ∙ eq-eqb k.index l.index (sym f)

    same : is_its l.shard l.index y ≡ is_its k.shard k.index y
    same = ap (λ (n : ℕ). is_its n l.index y) e ∙ ap (λ (n : ℕ). is_its k.shard n y) f

    by : put_journal l (put_journal k ys) ≡ put_journal l ys → (t : Bool) → is_its k.shard k.index y ≡ t →
        put_journal l (cond t (k ∷ ys) (y ∷ put_journal k ys))
        ≡ cond (is_its l.shard l.index y) (l ∷ ys) (y ∷ put_journal l ys)
    by later true q =
        ap (λ b. cond b (l ∷ ys) (k ∷ put_journal l ys)) on
        ∙ sym (ap (λ b. cond b (l ∷ ys) (y ∷ put_journal l ys)) (same ∙ q))
    by later false q =
        ap (λ b. cond b (l ∷ put_journal k ys) (y ∷ put_journal l (put_journal k ys))) (same ∙ q)
        ∙ ap (λ m. y ∷ m) later
        ∙ sym (ap (λ b. cond b (l ∷ ys) (y ∷ put_journal l ys)) (same ∙ q))
