-- The involved shards of a transaction that isn't empty: there is one, and each has a key.
use Rattle.std.proofs.Common.{◌≡◌, ℕ, zero, suc, ◌+◌, ◌<◌, ◌≤◌, ◌⊎◌, inl, inr, Bool, true, false}
use Rattle.std.proofs.Common.{List, [], ◌∷◌, length, map, Some, None, refl, sym, ap, ◌∙◌, arith}
use Rattle.std.specs.Prelude.{slice_get, slice_index, slice_index_or, ◌||◌, ◌&&◌, ◌==◌}
use Rattle.std.specs.List.{list_any}
use Rattle.std.proofs.Math.Nat.{mod-lt}
use Rattle.std.proofs.lemmas.Grind.{common_steps}
use Rattle.std.proofs.lemmas.Bool.{false≢true}
use Rattle.std.proofs.lemmas.Bool.Decides.{eqb_tells}
use Rattle.basil_types.specs.declared.transaction.parts.ReadPart.{ReadPart}
use Rattle.basil_types.specs.declared.transaction.parts.WritePart.{WritePart}
use Rattle.basil_types.specs.Setting.{Setting}
use Rattle.basil_types.specs.Transaction.{TransactionValue}
use Rattle.basil_types.proofs.Walks.{same}
use Rattle.txn_meta.specs.Form.{is_empty}
use Rattle.txn_meta.specs.Places.{shard_of, involves, marks_of, members_from, involved}

-- ---- the marked numbers

-- a mark makes a member
some_member : (marks : List Bool) (from k : ℕ) → slice_index_or marks k false ≡ true → 0 < length (members_from from marks)
some_member [] from k e = absurd cc
some_member (true ∷ marks) from k e = grind (arith, common_steps)
some_member (false ∷ marks) from zero e = absurd cc
some_member (false ∷ marks) from (suc k) e = some_member marks (from + 1) k e

-- a member is marked
member_marked : (marks : List Bool) (from place k : ℕ) → slice_get (members_from from marks) place ≡ Some k → (j : ℕ) × (k ≡ from + j) ×
    (slice_index_or marks j false ≡ true)
member_marked [] from place k e = absurd cc
member_marked (true ∷ marks) from zero k e =
    let is : from ≡ k = cc in
    (0, omega arith, refl)
member_marked (true ∷ marks) from (suc place) k e =
    let rest = member_marked marks (from + 1) place k e in
    (suc rest.0, omega (arith, rest.1), rest.2)
member_marked (false ∷ marks) from place k e =
    let rest = member_marked marks (from + 1) place k e in
    (suc rest.0, omega (arith, rest.1), rest.2)

-- ---- the marks of the eight shards

mark_passes : (p : ℕ → Bool) (k : ℕ) → slice_index_or (map p (0 ∷ 1 ∷ 2 ∷ 3 ∷ 4 ∷ 5 ∷ 6 ∷ 7 ∷ [])) k false ≡ true → p k ≡ true
mark_passes p zero e = e
mark_passes p (suc zero) e = e
mark_passes p (suc (suc zero)) e = e
mark_passes p (suc (suc (suc zero))) e = e
mark_passes p (suc (suc (suc (suc zero)))) e = e
mark_passes p (suc (suc (suc (suc (suc zero))))) e = e
mark_passes p (suc (suc (suc (suc (suc (suc zero)))))) e = e
mark_passes p (suc (suc (suc (suc (suc (suc (suc zero))))))) e = e
mark_passes p (suc (suc (suc (suc (suc (suc (suc (suc k)))))))) e = absurd cc

mark_stands : (p : ℕ → Bool) (k : ℕ) → k < 8 → slice_index_or (map p (0 ∷ 1 ∷ 2 ∷ 3 ∷ 4 ∷ 5 ∷ 6 ∷ 7 ∷ [])) k false ≡ p k
mark_stands p zero h = refl
mark_stands p (suc zero) h = refl
mark_stands p (suc (suc zero)) h = refl
mark_stands p (suc (suc (suc zero))) h = refl
mark_stands p (suc (suc (suc (suc zero)))) h = refl
mark_stands p (suc (suc (suc (suc (suc zero))))) h = refl
mark_stands p (suc (suc (suc (suc (suc (suc zero)))))) h = refl
mark_stands p (suc (suc (suc (suc (suc (suc (suc zero))))))) h = refl
mark_stands p (suc (suc (suc (suc (suc (suc (suc (suc k)))))))) h = absurd (omega arith)

-- ---- a shard of some key

key_found : {A : Type 0} (f : A → ℕ) (x : A) (xs : List A) → list_any (λ y. f y == f x) (x ∷ xs) ≡ true
key_found f x xs = ap (λ b. b || list_any (λ y. f y == f x) xs) (same (f x) (f x) refl)

found_below : {A : Type 0} (f : A → ℕ) (n k : ℕ) → ((x : A) → f x < n) → (xs : List A) → list_any (λ x. f x == k) xs ≡ true → k < n
found_below f n k small [] e = absurd cc
found_below f n k small (x ∷ xs) e =
    elim (eqb_tells (f x) k) [
      | inl q ↦ omega (arith, small x, q.1)
      | inr q ↦ found_below f n k small xs (sym (ap (λ b. b || list_any (λ y. f y == k) xs) q.0) ∙ e)
    ]

either : (a b : Bool) → (a || b) ≡ true → (a ≡ true) ⊎ (b ≡ true)
either true b e = inl refl
either false b e = inr e

-- an involved shard is one of the cluster's
pub involved_below : (c : Setting) (t : TransactionValue) (k : ℕ) → 0 < c.shards → involves c t k ≡ true → k < c.shards
involved_below c t k some e =
    elim (either _ _ e) [
      | inl q ↦ found_below (λ r. shard_of c r.key) c.shards k (λ r. mod-lt _ some) t.reads q
      | inr q ↦ found_below (λ w. shard_of c w.key) c.shards k (λ w. mod-lt _ some) t.writes q
    ]

some_key : (c : Setting) (t : TransactionValue) (reads : List ReadPart) (writes : List WritePart) → t.reads ≡ reads → t.writes ≡ writes →
    0 < c.shards → is_empty t ≡ false → (k : ℕ) × (k < c.shards) × (involves c t k ≡ true)
some_key c t (r ∷ reads) writes e f some h = (
  shard_of c r.key,
  mod-lt _ some,
  ap (λ xs. list_any (λ x. shard_of c x.key == shard_of c r.key) xs || list_any (λ x. shard_of c x.key == shard_of c r.key) t.writes) e
      ∙ ap (λ b. b || list_any (λ x. shard_of c x.key == shard_of c r.key) t.writes) (key_found (λ x. shard_of c x.key) r reads),
)
some_key c t [] (w ∷ writes) e f some h = (
  shard_of c w.key,
  mod-lt _ some,
  ap (λ xs. list_any (λ x. shard_of c x.key == shard_of c w.key) xs || list_any (λ x. shard_of c x.key == shard_of c w.key) t.writes) e
      ∙ ap (list_any (λ x. shard_of c x.key == shard_of c w.key)) f
      ∙ key_found (λ x. shard_of c x.key) w writes,
)
some_key c t [] [] e f some h =
    absurd (false≢true (sym h ∙ ap (λ xs. length xs == 0 && length t.writes == 0) e ∙ ap (λ xs. length xs == 0) f))

-- a transaction that isn't empty involves a shard
pub some_involved : (c : Setting) (t : TransactionValue) → 0 < c.shards → c.shards ≤ 8 → is_empty t ≡ false → 0 < length (involved c t)
some_involved c t some few h =
    let key = some_key c t t.reads t.writes refl refl some h in
    some_member (marks_of c t) 0 key.0 (mark_stands (involves c t) key.0 (omega (arith, key.1)) ∙ key.2)

-- what stands in the list of the involved shards is involved
pub listed_involved : (c : Setting) (t : TransactionValue) (place k : ℕ) → slice_get (involved c t) place ≡ Some k → involves c t k ≡ true
listed_involved c t place k e =
    let marked = member_marked (marks_of c t) 0 place k e in
    let is : marked.0 ≡ k = omega (arith, marked.1) in
    ap (involves c t) (sym is) ∙ mark_passes (involves c t) marked.0 marked.2

-- ---- the shard at a place

pub got_index : (xs : List ℕ) (i x : ℕ) → slice_get xs i ≡ Some x → x ≡ slice_index xs i
got_index [] i x e = absurd cc
got_index (y ∷ ys) zero x e = cc
got_index (y ∷ ys) (suc i) x e = got_index ys i x e

pub got_within : (xs : List ℕ) (i : ℕ) → slice_get xs i ≡ None → length xs ≤ i
got_within [] i e = omega arith
got_within (y ∷ ys) zero e = absurd cc
got_within (y ∷ ys) (suc i) e = omega (arith, got_within ys i e)
