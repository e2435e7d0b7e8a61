-- What a verdict that isn't an abort has tested.
use Rattle.std.proofs.Common.{◌≡◌, ◌⊎◌, inl, inr, ℕ, Bool, true, false, cond, List, Option, Some, None, refl, sym, ◌∙◌}
use Rattle.std.specs.Prelude.{◌||◌, ◌&&◌, not, is_none, slice_get, Contains}
use Rattle.std.specs.List.{list_any}
use Rattle.std.specs.Option.{option_and_then, option_map_or}
use Rattle.basil_types.specs.declared.party.Decision.{Decision}
use Rattle.basil_types.specs.declared.party.Decision.TheVariants as decisions
use Rattle.basil_types.specs.declared.transaction.parts.ReadPart.{ReadPart}
use Rattle.basil_types.specs.Transaction.{TransactionValue, version_of, writes_key}
use Rattle.basil_types.specs.Version.{same_version}
use Rattle.basil_types.proofs.MemberLaws.{hit_from}
use Rattle.basil_types.proofs.VersionLaws.{same_exactly}
use Rattle.txn_meta.specs.Conflicts.{conflict_in}
use Rattle.txn_table.specs.Entries.{EntryValue, decision_of}
use Rattle.txn_table.specs.Released.{is_aborted, is_dependency, place_read}
use Rattle.txn_table.specs.declared.released.Home.{Home}
use Rattle.mvtso_check.specs.declared.verdict.Verdict.TheVariants.{Commit, Wait}
use Rattle.mvtso_check.specs.Book.{stands, is_broken_by, is_broken, is_open, IsSettled}
use Rattle.mvtso_check.specs.Laws.{IsLetStand, NothingConflicts, DependenciesAreSettled}
use Rattle.mvtso_check.specs.Verdict.{Book, aborted_by, is_late, has_broken_dependency, is_crossed}
use Rattle.mvtso_check.specs.Verdict.{is_read_later, must_abort, must_wait, proof, verdict}

-- ---- the verdict's cases

no_abort : (p : Option ℕ) → (aborted_by p ≡ Commit) ⊎ (aborted_by p ≡ Wait) → ⊥
no_abort None (inl e) = cc
no_abort None (inr e) = cc
no_abort (Some place) (inl e) = cc
no_abort (Some place) (inr e) = cc

let_stand : (late broken crossed later waits : Bool) (p : Option ℕ)
    → (cond (late || broken || crossed || later) (aborted_by p) (cond waits Wait Commit)
    ≡ Commit) ⊎ (cond (late || broken || crossed || later) (aborted_by p) (cond waits Wait Commit) ≡ Wait)
    → (broken ≡ false) × (crossed ≡ false)
let_stand true broken crossed later waits p e = absurd (no_abort p e)
let_stand false true crossed later waits p e = absurd (no_abort p e)
let_stand false false true later waits p e = absurd (no_abort p e)
let_stand false false false later waits p e = (refl, refl)

no_wait : (aborts waits : Bool) (p : Option ℕ) → cond aborts (aborted_by p) (cond waits Wait Commit) ≡ Commit → waits ≡ false
no_wait true waits p e = absurd (no_abort p (inl e))
no_wait false true p e = absurd cc
no_wait false false p e = refl

-- ---- what no item passes, none of them passes

none_passes : {A : Type 0} (p : A → Bool) (xs : List A) → list_any p xs ≡ false → (x : A) → Contains xs x → p x ≡ false
none_passes p xs e x i = by (p x) refl
  where
    by : (b : Bool) → p x ≡ b → p x ≡ false
    by true h = absurd (let impossible : true ≡ false = sym (hit_from p xs x i h) ∙ e in cc)
    by false h = h

behind_true : (a b : Bool) → a ≡ true → (a && b) ≡ false → b ≡ false
behind_true true b h e = e
behind_true false b h e = cc

tested : (home : Home) (now : ℕ) (book : Book) (t : TransactionValue) → IsLetStand home now book t
    → (has_broken_dependency home book t ≡ false) × (is_crossed home book t ≡ false)
tested home now book t e =
    let_stand (is_late home now t) (has_broken_dependency home book t)
    (is_crossed home book t) (is_read_later home book t) (must_wait home book t) (proof home book t) e

pub nothing_conflicts : NothingConflicts
nothing_conflicts = record {
  none = λ home now book t h. (tested home now book t h).1;
  each = λ home now book t h e i s.
      behind_true (stands e) (conflict_in home.cluster home.shard t e.transaction) s
      (none_passes (λ (e : EntryValue). stands e
      && conflict_in home.cluster home.shard t e.transaction) book.entries (tested home now book t h).1 e i);
}

-- ---- dependencies

record Settled (d : Option Decision) (w s : Bool) : Type 0 where
  pub committed : d ≡ Some decisions.Commit
  pub written : w ≡ true
  pub version : s ≡ true

settled_by : (d : Option Decision) (w s : Bool) → (is_aborted d || not w || not s) ≡ false → is_none d ≡ false → Settled d w s
settled_by None w s b o = absurd cc
settled_by (Some decisions.Abort) w s b o = absurd cc
settled_by (Some decisions.Commit) true true b o = record { committed = refl; written = refl; version = refl }
settled_by (Some decisions.Commit) true false b o = absurd cc
settled_by (Some decisions.Commit) false s b o = absurd cc

module _ (es : List EntryValue) (r : ReadPart) where
  at_entry : (place : ℕ) → place_read es r ≡ Some place → (o : Option EntryValue) → slice_get es place ≡ o
      → option_map_or (is_broken_by r) o true ≡ false → option_map_or (λ (e : EntryValue). is_none (decision_of e)) o true ≡ false
      → IsSettled es r
  at_entry place f None at b o = absurd cc
  at_entry place f (Some e) at b o =
      let s = settled_by (decision_of e) (writes_key e.transaction r.key) (same_version (version_of e.transaction) r.version) b o in
      record {
        place = place;
        entry = e;
        found = f;
        at = at;
        committed = s.committed;
        written = s.written;
        version = (same_exactly (version_of e.transaction) r.version).0 s.version;
      }

  at_place : (o : Option ℕ) → place_read es r ≡ o → option_map_or (is_broken_by r) (option_and_then (slice_get es) o) true ≡ false
      → option_map_or (λ (e : EntryValue). is_none (decision_of e)) (option_and_then (slice_get es) o) true ≡ false → IsSettled es r
  at_place None f b o = absurd cc
  at_place (Some place) f b o = at_entry place f (slice_get es place) refl b o

  pub settled : is_broken es r ≡ false → is_open es r ≡ false → IsSettled es r
  settled b o = at_place (place_read es r) refl b o

pub dependencies_are_settled : DependenciesAreSettled
dependencies_are_settled = record {
  none_waits = none_waits;
  each = λ home now book t h r i d.
      settled book.entries r
      (behind_true (is_dependency home r) (is_broken book.entries r) d (none_passes (λ (r : ReadPart). is_dependency home r
      && is_broken book.entries r) t.reads (tested home now book t (inl h)).0 r i))
      (behind_true (is_dependency home r) (is_open book.entries r) d (none_passes (λ (r : ReadPart). is_dependency home r
      && is_open book.entries r) t.reads (none_waits home now book t h) r i));
}
  where
    none_waits : (home : Home) (now : ℕ) (book : Book) (t : TransactionValue) → verdict home now book t ≡ Commit
        → must_wait home book t ≡ false
    none_waits home now book t e = no_wait (must_abort home now book t) (must_wait home book t) (proof home book t) e
