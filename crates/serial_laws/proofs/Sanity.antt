-- Real transactions make a sane setting.
use Rattle.std.proofs.Common.{◌≡◌, ℕ, true, List, refl, sym, ◌∙◌}
use Rattle.std.specs.Prelude.{◌&&◌, ◌==◌}
use Rattle.std.specs.List.{Contains}
use Rattle.std.specs.Str.{bytes_eq}
use Rattle.std.proofs.lemmas.Bool.{and_parts, and_from, or_left, eq-eqb}
use Rattle.std.proofs.lemmas.Slice.Eq.{bytes_eq-Decides}
use Rattle.basil_types.specs.Setting as cluster
use Rattle.basil_types.specs.declared.transaction.parts.ReadPart.{ReadPart}
use Rattle.basil_types.specs.Transaction.{TransactionValue}
use Rattle.basil_types.proofs.MemberLaws.{hit_of, hit_from}
use Rattle.txn_meta.specs.Conflicts.{crosses, crosses_in, is_crossed_in, conflict_in, ShardConflicts}
use Rattle.txn_meta.specs.Places.{shard_of, involves}
use Rattle.txn_meta.proofs.ConflictLaws.{read_involved}
use Rattle.serial_laws.specs.Dependencies.{is_dependency_on, depends_on}
use Rattle.serial_laws.specs.Laws.{SettingsAreSane}

-- the shard of a key is its own
own_shard : (c : cluster.Setting) (key : List ℕ) → shard_of c key == shard_of c key ≡ true
own_shard c key = eq-eqb (shard_of c key) (shard_of c key) refl

-- what crosses a read conflicts on the shard of the key
pub conflicts : (c : cluster.Setting) (t u : TransactionValue) (r : ReadPart) → Contains t.reads r → crosses u t r ≡ true →
    conflict_in c (shard_of c r.key) t u ≡ true
conflicts c t u r i h =
    let s = shard_of c r.key in
    or_left (is_crossed_in c s t u) (is_crossed_in c s u t)
    (hit_from (crosses_in c s u t) t.reads r i (and_from (shard_of c r.key == s) (crosses u t r) (own_shard c r.key) h))

-- the shard of a key that is read is involved
pub reads_involve : (c : cluster.Setting) (t : TransactionValue) (r : ReadPart) → Contains t.reads r →
    involves c t (shard_of c r.key) ≡ true
reads_involve c t r i = read_involved c (shard_of c r.key) t r i (own_shard c r.key)

-- what a transaction depends on by a key of a shard it read there
depends_involve : (c : cluster.Setting) (s : ℕ) (t : TransactionValue) (y : List ℕ) → depends_on c s t y ≡ true → involves c t s ≡ true
depends_involve c s t y h =
    let o = hit_of (is_dependency_on c s y) t.reads h in
    let r = o.0 in
    let p = and_parts (r.dependency && (shard_of c r.key == s)) (bytes_eq r.version.id y) o.2 in
    read_involved c s t r o.1 (and_parts r.dependency (shard_of c r.key == s) p.0).1

-- a dependency is one on the shard of its key
pub depended : (c : cluster.Setting) (t : TransactionValue) (r : ReadPart) (y : List ℕ) → Contains t.reads r → r.dependency ≡ true →
    r.version.id ≡ y → depends_on c (shard_of c r.key) t y ≡ true
depended c t r y i d e =
    hit_from (is_dependency_on c (shard_of c r.key) y) t.reads r i
    (and_from _ _ (and_from _ _ d (own_shard c r.key)) ((bytes_eq-Decides r.version.id y).1 e))

pub settings_are_sane : ShardConflicts → SettingsAreSane
settings_are_sane conflicts b few = record {
  few = few;
  not_itself = λ x s. conflicts.not_itself b.numbers s (b.text x);
  both_ways = λ x y s h. sym (conflicts.symmetric b.numbers s (b.text x) (b.text y)) ∙ h;
  on_a_key = λ x y s h. conflicts.involved b.numbers s (b.text x) (b.text y) h;
  of_a_key = λ x y s h. depends_involve b.numbers s (b.text x) y h;
}
