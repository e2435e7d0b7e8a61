-- The greatest noted read, with one more.
use Rattle.std.proofs.Common.{◌≡◌, ℕ, Bool, true, false, cond, List, ◌∷◌, Option, Some, None, refl, sym, ap, ◌∙◌}
use Rattle.std.specs.Prelude.{◌||◌, ◌&&◌, unwrap_or}
use Rattle.std.specs.Str.{bytes_eq}
use Rattle.std.specs.Ordering.{nat_cmp, ordering_then, ordering_reverse, is_lt}
use Rattle.std.specs.declared.cmp.Ordering.{Ordering}
use Rattle.std.specs.declared.cmp.Ordering.TheVariants.{Less, Equal, Greater}
use Rattle.std.specs.Cmp.{IsTotalOrder}
use Rattle.std.proofs.lemmas.Cmp.{nat_cmp_total, on_total, then_total, alike_right}
use Rattle.mv_store.specs.declared.store.Store.{Store}
use Rattle.mv_store.specs.Keys.{noted_of, Notes}
use Rattle.mv_store.specs.Noted.{comes_before, is_above, greatest}
use Rattle.mv_store.specs.Held.{Held, NotedRead, version}
use Rattle.mv_store.specs.Store.{Stands}

abbrev read_cmp : ℕ × ℕ → ℕ × ℕ → Ordering
read_cmp a b = ordering_then (nat_cmp a.0 b.0) (nat_cmp a.1 b.1)

read_total : IsTotalOrder read_cmp
read_total = then_total (on_total (λ (r : ℕ × ℕ). r.0) nat_cmp_total) (on_total (λ (r : ℕ × ℕ). r.1) nat_cmp_total)

less : (o : Ordering) → is_lt o ≡ true → o ≡ Less
less Less e = refl
less Equal e = absurd cc
less Greater e = absurd cc

trans : (a b c : ℕ × ℕ) → comes_before a b ≡ true → comes_before b c ≡ true → comes_before a c ≡ true
trans a b c p q = ap is_lt (read_total.trans a b c (less _ p) (less _ q))

-- what comes before one that doesn't come behind another comes before that
upto : (q x y : ℕ × ℕ) → comes_before y x ≡ false → comes_before q x ≡ true → comes_before q y ≡ true
upto q x y h p = by (read_cmp y x) refl
  where
    by : (o : Ordering) → read_cmp y x ≡ o → comes_before q y ≡ true
    by Less e = let impossible : true ≡ false = sym (ap is_lt e) ∙ h in absurd cc
    by Equal e = ap is_lt (alike_right read_total y x q e) ∙ p
    by Greater e = trans q x y p (ap is_lt (read_total.antisymm x y ∙ ap ordering_reverse e))

or_false : (a : Bool) → a ≡ (a || false)
or_false true = refl
or_false false = refl

or_when : (a b : Bool) → (b ≡ true → a ≡ true) → a ≡ (a || b)
or_when true b h = refl
or_when false true h = absurd (let e : false ≡ true = h refl in cc)
or_when false false h = refl

or_other : (a b : Bool) → (a ≡ true → b ≡ true) → b ≡ (a || b)
or_other true b h = h refl
or_other false b h = refl

greatest_of : (o : Option (ℕ × ℕ)) (x q : ℕ × ℕ) → is_above (Some (greatest o x)) q ≡ (comes_before q x || is_above o q)
greatest_of None x q = or_false (comes_before q x)
greatest_of (Some y) x q = by (comes_before y x) refl
  where
    by : (b : Bool) → comes_before y x ≡ b → comes_before q (cond (comes_before y x) x y) ≡ (comes_before q x || comes_before q y)
    by true e = ap (λ b. comes_before q (cond b x y)) e ∙ or_when (comes_before q x) (comes_before q y) (λ p. trans q y x p e)
    by false e = ap (λ b. comes_before q (cond b x y)) e ∙ or_other (comes_before q x) (comes_before q y) (λ p. upto q x y e p)

pub above : (b : Bool) (o : Option (ℕ × ℕ)) (x q : ℕ × ℕ)
    → is_above (cond b (Some (greatest o x)) o) q ≡ ((b && comes_before q x) || is_above o q)
above true o x q = greatest_of o x q
above false o x q = refl

pub stands_noted : (old new : Store) (key : List ℕ) (time client : ℕ) (held : List Held) (noted : List NotedRead)
    → Notes old.keys new.keys key (time, client) → Stands old held noted
    → Stands new held ((record { key = key; time = time; client = client }) ∷ noted)
stands_noted old new key time client held noted notes s =
    record {
      written = λ h k among writes. ap (λ o. unwrap_or o None) (notes.writers k (version h)) ∙ s.written h k among writes;
      writers = λ k v e is. s.writers k v e (sym (ap (λ o. unwrap_or o None) (notes.writers k v)) ∙ is);
      read = λ h r among reads. ap (λ o. unwrap_or o None) (notes.readers r.key (version h)) ∙ s.read h r among reads;
      readers = λ k v e is. s.readers k v e (sym (ap (λ o. unwrap_or o None) (notes.readers k v)) ∙ is);
      behind =
          λ k t c.
          ap (λ o. is_above o (t, c)) (notes.noted k) ∙ above (bytes_eq key k) (noted_of old.keys k) (time, client) (t, c)
          ∙ ap (λ b. (bytes_eq key k && comes_before (t, c) (time, client)) || b) (s.behind k t c);
    }
