-- What a store of all transactions finds is what the map before a reader has.
use Rattle.std.proofs.Common.{◌≡◌, ℕ, Bool, true, false, inl, inr, List, [], Option, Some, None, refl, ap, sym, ◌∙◌, subst}
use Rattle.std.specs.Prelude.{◌&&◌, filter, option_map, MatchOption}
use Rattle.std.specs.List.{Contains}
use Rattle.std.proofs.lemmas.Bool.{cases_Bool, and_parts, and_from}
use Rattle.basil_types.specs.declared.replayed.Latest.{Latest}
use Rattle.basil_types.specs.declared.version.Version.{Version}
use Rattle.basil_types.specs.Latest.{at, IsLatest}
use Rattle.basil_types.specs.Replayed.{replay, by_version, before}
use Rattle.basil_types.specs.Transaction.{TransactionValue, version_of, writes_key}
use Rattle.basil_types.specs.Version.{genesis, below}
use Rattle.basil_types.proofs.MemberLaws.{in_none, in_filter, filter_in, in_map, map_in}
use Rattle.basil_types.proofs.ReplayLaws.{left_written, by_version_rises, replayed_latest}
use Rattle.basil_types.proofs.VersionLaws.{same_from_neither}
use Rattle.mv_store.specs.Held as held
use Rattle.mv_store.specs.Held.{Held, latest, latest_committed, version_and_place}
use Rattle.mv_store.proofs.LatestLaws as store
use Rattle.mv_store.proofs.LatestLaws.{latest_is}
use Rattle.serial_laws.specs.Reads.{version_found}
use Rattle.serial_audit.specs.Parts.{told_of, all_told}
use Rattle.serial_audit.specs.Strays.{expected}
use Rattle.serial_audit.proofs.Filters.{filter_of_order, rising_filter}

-- the version that a store tells, or genesis
abbrev pub version_told : Option (Version × ℕ) → Version
version_told None = genesis
version_told (Some p) = p.0

abbrev under : Version → TransactionValue → Bool
under v t = below (version_of t) v

abbrev writes_under : List ℕ → Version → Held → Bool
writes_under key v h = held.is_committed h && (writes_key h.transaction key && below (held.version h) v)

module _ (key : List ℕ) (v : Version) (us : List TransactionValue) where
  abbrev those : List TransactionValue
  those = filter (under v) us

  abbrev writers : List Held
  writers = filter (writes_under key v) (all_told us)

  is_writer : (t : TransactionValue) → Contains those t → writes_key t key ≡ true → Contains writers (told_of t)
  is_writer t h w =
      let o = in_filter (under v) us t h in
      filter_in (writes_under key v) (all_told us) (told_of t) (map_in told_of us t o.0)
      (and_from true (writes_key t key && under v t) refl (and_from (writes_key t key) (under v t) w o.1))

  of_writer : (h : Held) → Contains writers h → Contains those h.transaction × (writes_key h.transaction key ≡ true)
  of_writer h c =
      let o = in_filter (writes_under key v) (all_told us) h c in
      let p = and_parts (held.is_committed h) (writes_key h.transaction key && below (held.version h) v) o.1 in
      let q = and_parts (writes_key h.transaction key) (below (held.version h) v) p.1 in
      let m = in_map told_of us h o.0 in (
        filter_in (under v) us h.transaction (subst (λ z. Contains us z) (ap (λ (z : Held). z.transaction) m.2) m.1) q.1,
        q.0,
      )

  pub same_versions : (o : Option Held) (p : Option Latest) → MatchOption o (writers ≡ []) (store.IsLatest writers)
      → IsLatest (Contains those) (Contains those) key p → version_told (option_map version_and_place o) ≡ version_found p
  same_versions None None m l = refl
  same_versions None (Some x) none l =
      absurd (in_none (told_of l.0) (subst (λ z. Contains z (told_of l.0)) none (is_writer l.0 l.1 (left_written l.0 key x l.2).0)))
  same_versions (Some h) None m l =
      let o = of_writer h m.among in
      absurd (let impossible : true ≡ false = sym o.1 ∙ l h.transaction o.0 in cc)
  same_versions (Some h) (Some x) m l =
      let o = of_writer h m.among in
      let w = left_written l.0 key x l.2 in
      same_from_neither (held.version h) (version_of l.0) (m.last (told_of l.0) (is_writer l.0 l.1 w.0))
      (elim (cases_Bool (below (version_of l.0) (held.version h))) [
        | inl b ↦ absurd (let impossible : true ≡ false = sym o.1 ∙ l.3 h.transaction o.0 b in cc)
        | inr b ↦ b
      ])
      ∙ sym w.1

pub told_expected : (ts : List TransactionValue) (v : Version) (key : List ℕ)
    → version_told (latest_committed key v (all_told (by_version ts))) ≡ expected ts v key
told_expected ts v key =
    let us = by_version ts in
    same_versions key v us (latest (writers key v us)) (at (before ts v) key) (latest_is (writers key v us))
    (subst (λ z. IsLatest (Contains (those key v us)) (Contains (those key v us)) key (at (replay [] z) key))
    (sym (filter_of_order (λ w. below w v) ts))
    (replayed_latest (those key v us) (rising_filter (under v) us (by_version_rises ts)) key))
