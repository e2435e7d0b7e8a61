-- How many replicas have an earliest log reply.
use Rattle.std.proofs.Common.{◌≡◌, ℕ, zero, suc, ◌+◌, ◌-◌, ◌≤◌, ◌<◌, ◌⊎◌, inl, inr, Bool, true, false, cond, List, [], ◌∷◌, length}
use Rattle.std.proofs.Common.{Option, Some, None, refl, sym, ap, subst, ◌∙◌, length-append, arith}
use Rattle.std.specs.Prelude.{filter_map, ◌&&◌, ◌==◌, ◌≢◌, Result, Ok, Err, OnOk, OnErr}
use Rattle.std.specs.Bool.{beq}
use Rattle.std.specs.List.{cons_option, range_with_len}
use Rattle.std.specs.Map.{lookup}
use Rattle.std.specs.Option.{option_map_or}
use Rattle.std.proofs.lemmas.Bool.{cases_Bool, eqb-true}
use Rattle.std.proofs.lemmas.Bool.Decides.{eqb_tells}
use Rattle.frame_values.specs.declared.owned.parts.LogPart.{LogPart}
use Rattle.client_recover.specs.Firsts.{CountsParts, IsSame, IsSet, Logged, Parts, count_in, number_of, part_at, same_key, same_logged}
use Rattle.client_recover.proofs.Walks.{given-push}

-- ---- how many numbers give something

abbrev one : {A : Type 0} → Option A → ℕ
one None = 0
one (Some a) = 1

abbrev count : {A : Type 0} → (ℕ → Option A) → ℕ → ℕ
count f zero = 0
count f (suc n) = count f n + one (f n)

given : {A : Type 0} (f : ℕ → Option A) (n : ℕ) → length (filter_map f (n ∷ [])) ≡ one (f n)
given {A} f n = by (f n)
  where
    by : (o : Option A) → length (cons_option o []) ≡ one o
    by None = refl
    by (Some a) = refl

counted : {A : Type 0} (f : ℕ → Option A) (n : ℕ) → length (filter_map f (range_with_len 0 n)) ≡ count f n
counted f zero = refl
counted {A} f (suc n) =
    let next : suc n ≡ n + 1 = omega arith in
    ap (λ k. length (filter_map f (range_with_len 0 k))) next
    ∙ ap (λ (ys : List A). length ys) (given-push f n)
    ∙ length-append (filter_map f (range_with_len 0 n)) (filter_map f (n ∷ []))
    ∙ ap (λ k. k + length (filter_map f (n ∷ []))) (counted f n)
    ∙ ap (λ k. count f n + k) (given f n)

few : {A : Type 0} (f : ℕ → Option A) (n : ℕ) → count f n ≤ n
few f zero = omega arith
few {A} f (suc n) = omega (arith, few f n, by (f n))
  where
    by : (o : Option A) → one o ≤ 1
    by None = omega arith
    by (Some a) = omega arith

-- one more gives something
module _ {A : Type 0} (f g : ℕ → Option A) (r : ℕ) (a : A) (set : (k : ℕ) → g k ≡ cond (r == k) (Some a) (f k)) (none : f r ≡ None) where
  other : (k : ℕ) → r ≢ k → g k ≡ f k
  other k apart = by (eqb_tells r k)
    where
      by : (((r == k) ≡ true) × (r ≡ k)) ⊎ (((r == k) ≡ false) × (r ≢ k)) → g k ≡ f k
      by (inl e) = absurd (apart e.1)
      by (inr e) = set k ∙ ap (λ b. cond b (Some a) (f k)) e.0

  itself : g r ≡ Some a
  itself = by (eqb_tells r r)
    where
      by : (((r == r) ≡ true) × (r ≡ r)) ⊎ (((r == r) ≡ false) × (r ≢ r)) → g r ≡ Some a
      by (inl e) = set r ∙ ap (λ b. cond b (Some a) (f r)) e.0
      by (inr e) = absurd (e.1 refl)

  as_many : (n : ℕ) → n ≤ r → count g n ≡ count f n
  as_many zero low = refl
  as_many (suc n) low =
      let apart : r ≢ n = λ e. absurd (let t : r ≡ n = e in omega (arith, t, low)) in
      ap (λ k. k + one (g n)) (as_many n (omega (arith, low))) ∙ ap (λ (o : Option A). count f n + one o) (other n apart)

  one_more : (n : ℕ) → r < n → count g n ≡ count f n + 1
  one_more zero low = absurd (omega (arith, low))
  one_more (suc n) low = by (one_more n) (eqb_tells r n)
    where
      by : (r < n → count g n ≡ count f n + 1) → (((r == n) ≡ true) × (r ≡ n)) ⊎ (((r == n) ≡ false) × (r ≢ n)) →
          count g n + one (g n) ≡ (count f n + one (f n)) + 1
      by next (inl e) =
          let same : count g n ≡ count f n = as_many n (let t = e.1 in omega (arith, t)) in
          let now : one (g n) ≡ 1 = ap (λ k. one (g k)) (sym e.1) ∙ ap (λ (o : Option A). one o) itself in
          let was : one (f n) ≡ 0 = ap (λ k. one (f k)) (sym e.1) ∙ ap (λ (o : Option A). one o) none in
          omega (arith, same, now, was)
      by next (inr e) =
          let more : count g n ≡ count f n + 1 = next (let t = e.1 in omega (arith, t, low)) in
          let same : one (g n) ≡ one (f n) = ap (λ (o : Option A). one o) (other n e.1) in
          omega (arith, more, same)

-- none gives something from a number on
no_more : {A : Type 0} (f : ℕ → Option A) (n m : ℕ) → ((k : ℕ) → n ≤ k → f k ≡ None) → count f (m + n) ≡ count f n
no_more f n zero h = ap (count f) (let e : 0 + n ≡ n = omega arith in e)
no_more {A} f n (suc m) h =
    ap (count f) (let e : suc m + n ≡ suc (m + n) = omega arith in e)
    ∙ ap (λ (o : Option A). count f (m + n) + one o) (h (m + n) (omega arith))
    ∙ (let z : count f (m + n) + 0 ≡ count f (m + n) = omega arith in z)
    ∙ no_more f n m h

-- ---- the parts

pub number_few : (parts : Parts) (p : Logged) → number_of parts p ≤ 256
number_few parts p = subst (λ k. k ≤ 256) (sym (counted (part_at parts p) 256)) (few (part_at parts p) 256)

pub number_below : (parts : Parts) (p : Logged) (n : ℕ) → n ≤ 256 → ((k : ℕ) → n ≤ k → part_at parts p k ≡ None) →
    number_of parts p ≡ length (filter_map (part_at parts p) (range_with_len 0 n))
number_below parts p n low below =
    let f = part_at parts p in
    let size : 256 ≡ (256 - n) + n = omega (arith, low) in
    counted f 256 ∙ ap (count f) size ∙ no_more f n (256 - n) below ∙ sym (counted f n)

bits : (a b : Bool) → beq a b ≡ true → a ≡ b
bits true true e = refl
bits true false e = absurd cc
bits false true e = absurd cc
bits false false e = refl

both : (a b : Bool) → (a && b) ≡ true → (a ≡ true) × (b ≡ true)
both true b e = (refl, e)
both false b e = absurd cc

pub same_pair : (p q : Logged) → same_logged p q ≡ true → p ≡ q
same_pair p q e =
    let h = both (beq p.0 q.0) (p.1 == q.1) e in
    ap (λ (b : Bool). (let l : Logged = (b, p.1) in l)) (bits p.0 q.0 h.0)
    ∙ ap (λ (v : ℕ). (let l : Logged = (q.0, v) in l)) (eqb-true p.1 q.1 h.1)

-- ---- one part more

-- where these parts have one more, of this decision and view, and these counts count it
module _ (old new : Parts) (p : Logged) (r : ℕ) (part : LogPart) (low : r < 256) (none : part_at old p r ≡ None)
    (set : IsSet old new (p.0, p.1, r) (Some part)) where
  set_at : (q : Logged) (k : ℕ) → part_at new q k ≡ cond (same_logged p q && (r == k)) (Some part) (part_at old q k)
  set_at q k = set (q.0, q.1, k)

  pub number_same : (q : Logged) → same_logged p q ≡ false → number_of new q ≡ number_of old q
  number_same q e =
      ap (λ (f : ℕ → Option LogPart). length (filter_map f (range_with_len 0 256)))
      (λ i k. (set_at q k ∙ ap (λ b. cond (b && (r == k)) (Some part) (part_at old q k)) e) i)

  pub number_more : (q : Logged) → same_logged p q ≡ true → number_of new q ≡ number_of old q + 1
  number_more q e =
      counted (part_at new q) 256
      ∙ one_more (part_at old q) (part_at new q) r part
      (λ k. set_at q k ∙ ap (λ b. cond (b && (r == k)) (Some part) (part_at old q k)) e)
      (ap (λ (l : Logged). part_at old l r) (sym (same_pair p q e)) ∙ none) 256 low
      ∙ ap (λ n. n + 1) (sym (counted (part_at old q) 256))

-- ---- the numbers that are kept

pub number_told : (parts : Parts) (counts : List (Logged × ℕ)) (p : Logged) (n : ℕ) (o : Option ℕ) → CountsParts parts counts →
    o ≡ lookup (same_logged p) counts → n ≡ option_map_or (λ (n : ℕ). n) o 0 → (now : Parts) → parts ≡ now → n ≡ number_of now p
number_told parts counts p n o h found is now same =
    is ∙ ap (λ (o : Option ℕ). option_map_or (λ (n : ℕ). n) o 0) found ∙ h p ∙ ap (λ ps. number_of ps p) same

-- one part more, and its number one more
pub counts_more : (old new : Parts) (was now : List (Logged × ℕ)) (p : Logged) (r : ℕ) (part : LogPart) (n : ℕ) → CountsParts old was →
    r < 256 → part_at old p r ≡ None → n ≡ number_of old p →
    IsSet old new (p.0, p.1, r) (Some part) →
    ((q : Logged) → lookup (same_logged q) now ≡ cond (same_logged p q) (Some (n + 1)) (lookup (same_logged q) was)) → CountsParts new now
counts_more old new was now p r part n h low none is set counts q = by (cases_Bool (same_logged p q))
  where
    read : (b : Bool) → same_logged p q ≡ b → count_in now q
        ≡ option_map_or (λ (n : ℕ). n) (cond b (Some (n + 1)) (lookup (same_logged q) was)) 0
    read b e =
        ap (λ (o : Option ℕ). option_map_or (λ (n : ℕ). n) o 0)
        (counts q ∙ ap (λ b. cond b (Some (n + 1)) (lookup (same_logged q) was)) e)

    by : (same_logged p q ≡ true) ⊎ (same_logged p q ≡ false) → count_in now q ≡ number_of new q
    by (inl e) =
        read true e ∙ ap (λ k. k + 1) (is ∙ ap (λ l. number_of old l) (same_pair p q e))
        ∙ sym (number_more old new p r part low none set q e)
    by (inr e) = read false e ∙ h q ∙ sym (number_same old new p r part low none set q e)

-- as many, where the parts are as they were
pub counts_same : (old new : Parts) (was now : List (Logged × ℕ)) → CountsParts old was → IsSame old new →
    ((q : Logged) → lookup (same_logged q) now ≡ lookup (same_logged q) was) → CountsParts new now
counts_same old new was now h same counts q =
    ap (λ (o : Option ℕ). option_map_or (λ (n : ℕ). n) o 0) (counts q) ∙ h q
    ∙ sym (ap (λ (f : ℕ → Option LogPart). length (filter_map f (range_with_len 0 256))) (λ i k. same (q.0, q.1, k) i))

-- a part that is put and taken away again
pub set_back : (old mid new : Parts) (p : Logged) (r : ℕ) (part : LogPart) → part_at old p r ≡ None →
    IsSet old mid (p.0, p.1, r) (Some part) →
    IsSet mid new (p.0, p.1, r) None → IsSame old new
set_back old mid new p r part none put taken k =
    taken k ∙ ap (cond (same_key (p.0, p.1, r) k) None) (put k) ∙ by (cases_Bool (same_key (p.0, p.1, r) k))
  where
    there : same_key (p.0, p.1, r) k ≡ true → lookup (same_key k) old ≡ None
    there e =
        let h = both (same_logged p (k.0, k.1)) (r == k.2) e in
        ap (λ (l : Logged). part_at old l k.2) (sym (same_pair p (k.0, k.1) h.0))
        ∙ ap (λ m. part_at old p m) (sym (eqb-true r k.2 h.1)) ∙ none

    by : (same_key (p.0, p.1, r) k ≡ true) ⊎ (same_key (p.0, p.1, r) k ≡ false) →
        cond (same_key (p.0, p.1, r) k) None (cond (same_key (p.0, p.1, r) k) (Some part) (lookup (same_key k) old))
        ≡ lookup (same_key k) old
    by (inl e) = ap (λ b. cond b None (cond b (Some part) (lookup (same_key k) old))) e ∙ sym (there e)
    by (inr e) = ap (λ b. cond b None (cond b (Some part) (lookup (same_key k) old))) e

-- a part that is taken away was set
unset : (old new : Parts) (p : Logged) (r : ℕ) (part : LogPart) → part_at old p r ≡ Some part → IsSet old new (p.0, p.1, r) None →
    IsSet new old (p.0, p.1, r) (Some part)
unset old new p r part there taken k = by (cases_Bool (same_key (p.0, p.1, r) k))
  where
    here : same_key (p.0, p.1, r) k ≡ true → lookup (same_key k) old ≡ Some part
    here e =
        let h = both (same_logged p (k.0, k.1)) (r == k.2) e in
        ap (λ (l : Logged). part_at old l k.2) (sym (same_pair p (k.0, k.1) h.0))
        ∙ ap (λ m. part_at old p m) (sym (eqb-true r k.2 h.1)) ∙ there

    by : (same_key (p.0, p.1, r) k ≡ true) ⊎ (same_key (p.0, p.1, r) k ≡ false) →
        lookup (same_key k) old ≡ cond (same_key (p.0, p.1, r) k) (Some part) (lookup (same_key k) new)
    by (inl e) = here e ∙ sym (ap (λ b. cond b (Some part) (lookup (same_key k) new)) e)
    by (inr e) =
        sym (taken k ∙ ap (λ b. cond b None (lookup (same_key k) old)) e)
        ∙ sym (ap (λ b. cond b (Some part) (lookup (same_key k) new)) e)

same_itself : (p : Logged) (r : ℕ) → same_key (p.0, p.1, r) (p.0, p.1, r) ≡ true
same_itself p r = by p.0 (eqb_tells p.1 p.1) (eqb_tells r r)
  where
    by : (b : Bool) → (((p.1 == p.1) ≡ true) × (p.1 ≡ p.1)) ⊎ (((p.1 == p.1) ≡ false) × (p.1 ≢ p.1)) →
        (((r == r) ≡ true) × (r ≡ r)) ⊎ (((r == r) ≡ false) × (r ≢ r)) → ((beq b b && (p.1 == p.1)) && (r == r)) ≡ true
    by b (inr e) f = absurd (e.1 refl)
    by b (inl e) (inr f) = absurd (f.1 refl)
    by true (inl e) (inl f) = ap (λ x. x && (r == r)) e.0 ∙ f.0
    by false (inl e) (inl f) = ap (λ x. x && (r == r)) e.0 ∙ f.0

taken_none : (old new : Parts) (p : Logged) (r : ℕ) → IsSet old new (p.0, p.1, r) None → part_at new p r ≡ None
taken_none old new p r taken = taken (p.0, p.1, r) ∙ ap (λ b. cond b None (part_at old p r)) (same_itself p r)

-- one part less, and its number one less
module _ (old new : Parts) (was : List (Logged × ℕ)) (p : Logged) (r : ℕ) (part : LogPart) (n : ℕ) (h : CountsParts old was) (low : r < 256)
    (there : part_at old p r ≡ Some part) (is : n ≡ number_of old p) (taken : IsSet old new (p.0, p.1, r) None) where
  one_less : (q : Logged) → same_logged p q ≡ true → number_of old q ≡ number_of new q + 1
  one_less q e =
      number_more new old p r part low (taken_none old new p r taken) (unset old new p r part there taken) q e

  pub counts_less : (now : List (Logged × ℕ)) → ((q : Logged) → lookup (same_logged q) now
      ≡ cond (same_logged p q) (Some (n - 1)) (lookup (same_logged q) was)) → CountsParts new now
  counts_less now counts q = by (cases_Bool (same_logged p q))
    where
      read : (b : Bool) → same_logged p q ≡ b →
          count_in now q ≡ option_map_or (λ (n : ℕ). n) (cond b (Some (n - 1)) (lookup (same_logged q) was)) 0
      read b e =
          ap (λ (o : Option ℕ). option_map_or (λ (n : ℕ). n) o 0)
          (counts q ∙ ap (λ b. cond b (Some (n - 1)) (lookup (same_logged q) was)) e)

      by : (same_logged p q ≡ true) ⊎ (same_logged p q ≡ false) → count_in now q ≡ number_of new q
      by (inl e) =
          let full : n ≡ number_of new q + 1 = is ∙ ap (λ l. number_of old l) (same_pair p q e) ∙ one_less q e in
          read true e ∙ (let z : n - 1 ≡ number_of new q = omega (arith, full) in z)
      by (inr e) =
          read false e ∙ h q
          ∙ number_same new old p r part low (taken_none old new p r taken) (unset old new p r part there taken) q e

  pub never_absent : lookup (same_logged p) was ≡ None → ⊥
  never_absent none =
      let zero_is : 0 ≡ number_of old p = sym (ap (λ (o : Option ℕ). option_map_or (λ (n : ℕ). n) o 0) none) ∙ h p in
      let full : number_of old p ≡ number_of new p + 1 = one_less p (both (same_logged p p) (r == r) (same_itself p r)).0 in
      absurd (omega (arith, zero_is, full))

pub either : {A E : Type 0} {P Q T : Type 0} (r : Result A E) → OnOk r P → OnErr r Q → (P → T) → (Q → T) → T
either (Ok a) p q f g = f p
either (Err e) p q f g = g q
