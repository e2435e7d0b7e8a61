-- The two searches of the store find what conflicts on keys of the shard.
use Rattle.std.proofs.Common.{◌≡◌, ℕ, Bool, true, false, List, refl, ap, sym, ◌∙◌}
use Rattle.std.specs.Prelude.{◌&&◌, ◌||◌, ◌==◌}
use Rattle.std.specs.Str.{bytes_eq}
use Rattle.std.proofs.lemmas.Bool.{and_parts, and_from, eqb-true, eq-eqb}
use Rattle.std.proofs.lemmas.Slice.Eq.{bytes_eq-Decides}
use Rattle.basil_types.specs.declared.transaction.parts.ReadPart.{ReadPart}
use Rattle.basil_types.specs.declared.transaction.parts.WritePart.{WritePart}
use Rattle.basil_types.specs.Transaction.{TransactionValue, version_of, writes_key}
use Rattle.basil_types.specs.Version.{below, is_between}
use Rattle.basil_types.proofs.MemberLaws.{hit_of, hit_from}
use Rattle.txn_meta.specs.Conflicts.{crosses_in, is_crossed_in, conflict_in}
use Rattle.txn_meta.specs.Places.{shard_of}
use Rattle.txn_table.specs.declared.released.Home.{Home}
use Rattle.mv_store.specs.Held.{reads_key_below}
use Rattle.mvtso_check.specs.Crossings.{is_write_under, writes_under}

both : (a b : Bool) → (a ≡ true → b ≡ true) → (b ≡ true → a ≡ true) → a ≡ b
both true b f g = sym (f refl)
both false true f g = g refl
both false false f g = refl

module _ (home : Home) (t u : TransactionValue) where
  key_same : (a k : List ℕ) → bytes_eq a k ≡ true → a ≡ k
  key_same a k e = (bytes_eq-Decides a k).0 e

  -- what reads a written key below the writer is crossed by it
  to_crossed : writes_under home t u ≡ true → is_crossed_in home.cluster home.shard u t ≡ true
  to_crossed h =
      let w = hit_of (is_write_under home t u) t.writes h in
      let p = and_parts _ _ w.2 in
      let q = and_parts (below (version_of t) (version_of u)) (reads_key_below (w.0).key (version_of t) u) p.1 in
      let r = hit_of (λ (z : ReadPart). bytes_eq z.key (w.0).key && below z.version (version_of t)) u.reads q.1 in
      let s = and_parts (bytes_eq (r.0).key (w.0).key) (below (r.0).version (version_of t)) r.2 in
      let same : (r.0).key ≡ (w.0).key = key_same (r.0).key (w.0).key s.0 in
      let own : shard_of home.cluster (r.0).key ≡ home.shard = ap (shard_of home.cluster) same
      ∙ eqb-true (shard_of home.cluster (w.0).key) home.shard p.0 in
      let written : writes_key t (r.0).key
      ≡ true =
      hit_from (λ (z : WritePart). bytes_eq z.key (r.0).key) t.writes w.0 w.1 ((bytes_eq-Decides (w.0).key (r.0).key).1 (sym same)) in
      hit_from (crosses_in home.cluster home.shard t u) u.reads r.0 r.1
      (and_from _ _ (eq-eqb (shard_of home.cluster (r.0).key) home.shard own) (and_from _ _ written (and_from _ _ s.1 q.0)))

  from_crossed : is_crossed_in home.cluster home.shard u t ≡ true → writes_under home t u ≡ true
  from_crossed h =
      let r = hit_of (crosses_in home.cluster home.shard t u) u.reads h in
      let p = and_parts (shard_of home.cluster (r.0).key == home.shard) (writes_key t (r.0).key
      && is_between (r.0).version (version_of t) (version_of u)) r.2 in
      let q = and_parts (writes_key t (r.0).key) (is_between (r.0).version (version_of t) (version_of u)) p.1 in
      let b = and_parts (below (r.0).version (version_of t)) (below (version_of t) (version_of u)) q.1 in
      let w = hit_of (λ (z : WritePart). bytes_eq z.key (r.0).key) t.writes q.0 in
      let same : (w.0).key ≡ (r.0).key = key_same (w.0).key (r.0).key w.2 in
      let own : shard_of home.cluster (w.0).key ≡ home.shard = ap (shard_of home.cluster) same
      ∙ eqb-true (shard_of home.cluster (r.0).key) home.shard p.0 in
      let reads : (z : ReadPart) → Bool = λ z. bytes_eq z.key (w.0).key && below z.version (version_of t) in
      let read : reads_key_below (w.0).key (version_of t) u
      ≡ true = hit_from reads u.reads r.0 r.1 (and_from _ _ ((bytes_eq-Decides (r.0).key (w.0).key).1 (sym same)) b.0) in
      hit_from (is_write_under home t u) t.writes w.0 w.1
      (and_from _ _ (eq-eqb (shard_of home.cluster (w.0).key) home.shard own) (and_from _ _ b.1 read))

  pub under_is_crossed : writes_under home t u ≡ is_crossed_in home.cluster home.shard u t
  under_is_crossed = both (writes_under home t u) (is_crossed_in home.cluster home.shard u t) to_crossed from_crossed

  pub searches_conflict : (is_crossed_in home.cluster home.shard t u || writes_under home t u) ≡ conflict_in home.cluster home.shard t u
  searches_conflict = ap (λ b. is_crossed_in home.cluster home.shard t u || b) under_is_crossed
