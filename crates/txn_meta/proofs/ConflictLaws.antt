-- Conflicts of two transactions, and on the keys of one shard.
use Rattle.std.proofs.Common.{◌≡◌, ℕ, Bool, true, false, inl, inr, ◌<◌, List, refl, sym, ap, ◌∙◌, arith}
use Rattle.std.specs.Prelude.{not, ◌&&◌, ◌||◌, ◌==◌, sum}
use Rattle.std.specs.List.{list_any, Contains}
use Rattle.std.specs.Str.{bytes_eq}
use Rattle.std.specs.Cmp.Lexicographic.{bytes_decides}
use Rattle.std.proofs.Math.Nat.{mod-lt}
use Rattle.std.proofs.lemmas.Bool.{cases_Bool, and_parts, and_from, or_cases, or_left, or_right, eq-eqb}
use Rattle.basil_types.specs.declared.transaction.parts.ReadPart.{ReadPart}
use Rattle.basil_types.specs.declared.transaction.parts.WritePart.{WritePart}
use Rattle.basil_types.specs.Setting.{Setting, IsSetting}
use Rattle.basil_types.specs.Transaction.{TransactionValue, IsTransaction, canonical, version_of, writes_key}
use Rattle.basil_types.specs.Version.{is_between, below}
use Rattle.basil_types.proofs.MemberLaws.{hit_of, hit_from}
use Rattle.basil_types.proofs.TransactionLaws.{canonical-is}
use Rattle.basil_types.proofs.VersionLaws.{below_itself}
use Rattle.txn_meta.specs.Conflicts.{differ, crosses, is_crossed, conflict, crosses_in}
use Rattle.txn_meta.specs.Conflicts.{is_crossed_in, conflict_in, ShardConflicts, ConflictsAreOfShards}
use Rattle.txn_meta.specs.Places.{shard_of, involves}

or_turned : (a b : Bool) → (a || b) ≡ (b || a)
or_turned true true = refl
or_turned true false = refl
or_turned false true = refl
or_turned false false = refl

false_and : (a b : Bool) → b ≡ false → (a && b) ≡ false
false_and true b e = e
false_and false b e = refl

-- what isn't found is nowhere
none_hit : {A : Type 0} (p : A → Bool) (xs : List A) → ((x : A) → p x ≡ false) → list_any p xs ≡ false
none_hit p xs h = elim (cases_Bool (list_any p xs)) [
  | inl e ↦ let o = hit_of p xs e in absurd (let impossible : true ≡ false = sym o.2 ∙ h o.0 in cc)
  | inr e ↦ e
]

-- a version doesn't stand between one and itself
not_between : (t : TransactionValue) (r : ReadPart) → is_between r.version (version_of t) (version_of t) ≡ false
not_between t r = false_and (below r.version (version_of t)) (below (version_of t) (version_of t)) (below_itself (version_of t))

pub crossed_itself : (c : Setting) (s : ℕ) (t : TransactionValue) → is_crossed_in c s t t ≡ false
crossed_itself c s t = none_hit (crosses_in c s t t) t.reads (λ r.
    false_and (shard_of c r.key == s) (crosses t t r)
    (false_and (writes_key t r.key) (is_between r.version (version_of t) (version_of t)) (not_between t r)))

-- ---- involved

pub read_involved : (c : Setting) (s : ℕ) (t : TransactionValue) (r : ReadPart) → Contains t.reads r → shard_of c r.key == s ≡ true →
    involves c t s ≡ true
read_involved c s t r i e = or_left _ _ (hit_from (λ r. shard_of c r.key == s) t.reads r i e)

pub written_involved : (c : Setting) (s : ℕ) (t : TransactionValue) (key : List ℕ) → writes_key t key ≡ true → shard_of c key == s ≡ true →
    involves c t s ≡ true
written_involved c s t key h e =
    let o = hit_of (λ (w : WritePart). bytes_eq w.key key) t.writes h in
    let same : o.0.key ≡ key = (bytes_decides o.0.key key).0 o.2 in
    or_right _ _ (hit_from (λ (w : WritePart). shard_of c w.key == s) t.writes o.0 o.1 (ap (λ (k : List ℕ). shard_of c k == s) same ∙ e))

-- of a read that is crossed on a shard: it stands there, and both transactions have a key of the shard
pub crossed_read : (c : Setting) (s : ℕ) (t u : TransactionValue) → is_crossed_in c s t u ≡ true → (r : ReadPart) × Contains t.reads r ×
    (shard_of c r.key == s ≡ true) × (crosses u t r ≡ true)
crossed_read c s t u h =
    let o = hit_of (crosses_in c s u t) t.reads h in
    let p = and_parts (shard_of c o.0.key == s) (crosses u t o.0) o.2 in
    (o.0, o.1, p.0, p.1)

pub reader_involved : (c : Setting) (s : ℕ) (t u : TransactionValue) → is_crossed_in c s t u ≡ true → involves c t s ≡ true
reader_involved c s t u h = let o = crossed_read c s t u h in read_involved c s t o.0 o.1 o.2

pub writer_involved : (c : Setting) (s : ℕ) (t u : TransactionValue) → is_crossed_in c s t u ≡ true → involves c u s ≡ true
writer_involved c s t u h =
    let o = crossed_read c s t u h in
    let p = and_parts (writes_key u o.0.key) (is_between o.0.version (version_of u) (version_of t)) o.3 in
    written_involved c s u o.0.key p.0 o.2

pub shard_conflicts : ShardConflicts
shard_conflicts = record {
  symmetric = λ c s t u. or_turned (is_crossed_in c s t u) (is_crossed_in c s u t);
  not_itself = λ c s t. ap (λ b. b || b) (crossed_itself c s t);
  involved = λ c s t u h. elim (or_cases (is_crossed_in c s t u) (is_crossed_in c s u t) h) [
    | inl e ↦ reader_involved c s t u e
    | inr e ↦ writer_involved c s u t e
  ];
}

-- ---- of some shard

shard_below : (c : Setting) (key : List ℕ) → IsSetting c → shard_of c key < c.shards
shard_below c key is = let some : 0 < c.shards = omega (arith, is.some) in mod-lt (sum key) some

to_shard : (c : Setting) (t u : TransactionValue) → IsSetting c → is_crossed t u ≡ true → (s : ℕ) × (s < c.shards) ×
    (is_crossed_in c s t u ≡ true)
to_shard c t u is h =
    let o = hit_of (crosses u t) t.reads h in
    let s = shard_of c o.0.key in (
      s,
      shard_below c o.0.key is,
      hit_from (crosses_in c s u t) t.reads o.0 o.1
          (and_from (shard_of c o.0.key == s) (crosses u t o.0) (eq-eqb s s refl) o.2),
    )

from_shard : (c : Setting) (s : ℕ) (t u : TransactionValue) → is_crossed_in c s t u ≡ true → is_crossed t u ≡ true
from_shard c s t u h = let o = crossed_read c s t u h in hit_from (crosses u t) t.reads o.0 o.1 o.3

differs : (c : Setting) (s : ℕ) (t u : TransactionValue) → IsTransaction t → IsTransaction u → conflict_in c s t u ≡ true → differ t u
    ≡ true
differs c s t u a b h = elim (cases_Bool (bytes_eq (canonical t) (canonical u))) [
  | inl e ↦
      let same : t ≡ u = canonical-is t u a b ((bytes_decides (canonical t) (canonical u)).0 e) in
      let none : conflict_in c s t u ≡ false = ap (conflict_in c s t) (sym same) ∙ shard_conflicts.not_itself c s t in
      absurd (let impossible : true ≡ false = sym h ∙ none in cc)
  | inr e ↦ ap not e
]

pub conflicts_are_of_shards : ConflictsAreOfShards
conflicts_are_of_shards c t u is a b = (to, from)
  where
    to : conflict t u ≡ true → (s : ℕ) × (s < c.shards) × (conflict_in c s t u ≡ true)
    to h = elim (or_cases (is_crossed t u) (is_crossed u t) (and_parts (differ t u) (is_crossed t u || is_crossed u t) h).1) [
      | inl e ↦ let o = to_shard c t u is e in (o.0, o.1, or_left (is_crossed_in c o.0 t u) (is_crossed_in c o.0 u t) o.2)
      | inr e ↦ let o = to_shard c u t is e in (o.0, o.1, or_right (is_crossed_in c o.0 t u) (is_crossed_in c o.0 u t) o.2)
    ]

    either : (s : ℕ) → conflict_in c s t u ≡ true → (is_crossed t u || is_crossed u t) ≡ true
    either s h = elim (or_cases (is_crossed_in c s t u) (is_crossed_in c s u t) h) [
      | inl e ↦ or_left (is_crossed t u) (is_crossed u t) (from_shard c s t u e)
      | inr e ↦ or_right (is_crossed t u) (is_crossed u t) (from_shard c s u t e)
    ]

    from : ((s : ℕ) × (s < c.shards) × (conflict_in c s t u ≡ true)) → conflict t u ≡ true
    from o = and_from (differ t u) (is_crossed t u || is_crossed u t) (differs c o.0 t u a b o.2) (either o.0 o.2)
