-- What a verdict says of a replica's book.
use Rattle.std.proofs.Common.{◌≡◌, ℕ, Bool, true, false, inl, inr, List, Option, Some, None, refl, ap, sym, ◌∙◌, subst}
use Rattle.std.specs.Prelude.{◌&&◌, ◌||◌, slice_get, is_none, option_map}
use Rattle.std.specs.List.{Contains}
use Rattle.std.specs.Option.{option_and_then}
use Rattle.std.specs.Str.{bytes_eq}
use Rattle.std.proofs.lemmas.Bool.{cases_Bool, and_parts}
use Rattle.std.proofs.lemmas.Option.{slice_get_within, get_or_from_slice_get}
use Rattle.std.proofs.lemmas.Slice.Eq.{bytes_eq-Decides}
use Rattle.basil_types.specs.declared.party.Decision as parties
use Rattle.basil_types.specs.declared.party.Decision.TheVariants as declared
use Rattle.basil_types.specs.Transaction.{TransactionValue, id}
use Rattle.basil_types.proofs.MemberLaws.{hit_of}
use Rattle.txn_meta.specs.Conflicts.{conflict_in}
use Rattle.txn_table.specs.Entries as entries
use Rattle.txn_table.specs.Entries.{EntryValue, decision_of}
use Rattle.txn_table.specs.Released.{is_committed, is_dependency}
use Rattle.txn_table.specs.Tables.{id_of, place_of, entry_with}
use Rattle.txn_table.specs.declared.released.Home.{Home}
use Rattle.txn_table.proofs.Places.{entry_placed}
use Rattle.mvtso_check.specs.declared.verdict.Verdict.TheVariants as given
use Rattle.mvtso_check.specs.Book.{waits_or_commits, stands}
use Rattle.mvtso_check.specs.Laws.{NothingConflicts, DependenciesAreSettled, IsLetStand}
use Rattle.mvtso_check.specs.Verdict as verdicts
use Rattle.mvtso_check.specs.Verdict.{verdict}
use Rattle.agreement_laws.specs.Words.{Id, Commit}
use Rattle.agreement_laws.specs.Replicas.{is_standing, is_held}
use Rattle.serial_laws.specs.Bases.{Basis, IsText}
use Rattle.serial_laws.specs.Dependencies.{is_dependency_on, depends_on}
use Rattle.law_joins.specs.Books.{state_of, vote_at, outcome_at, AreTexts, VerdictsAreSound}
use Rattle.law_joins.specs.Shown as shown

-- ---- what is held stands

standing : (v : entries.VoteValue) → is_standing (state_of v) ≡ waits_or_commits v
standing entries.Unvoted = refl
standing (entries.Waiting askers) = refl
standing (entries.Voted declared.Commit signature proof) = refl
standing (entries.Voted declared.Abort signature proof) = refl

held : (v : entries.VoteValue) (o : Option parties.Decision) → (waits_or_commits v && is_none o || is_committed o) ≡ false →
    is_held (state_of v) (option_map shown.decision_of o) ≡ false
held v None h = standing v ∙ by (waits_or_commits v) h
  where
    by : (b : Bool) → (b && true || false) ≡ false → b ≡ false
    by true k = cc
    by false k = refl
held v (Some declared.Commit) h = absurd (by (waits_or_commits v) h)
  where
    by : (b : Bool) → (b && false || true) ≡ false → ⊥
    by true k = cc
    by false k = cc
held v (Some declared.Abort) h = refl

-- ---- the entry of an id

is_entry : (es : List EntryValue) (x : Id) (e : EntryValue) → entry_with es x ≡ Some e → Contains es e × (id e.transaction ≡ x)
is_entry es x e h = by (place_of es x) refl h
  where
    by : (o : Option ℕ) → place_of es x ≡ o → option_and_then (slice_get es) o ≡ Some e → Contains es e × (id e.transaction ≡ x)
    by None p k = absurd cc
    by (Some i) p k =
        let q : Some (id e.transaction) ≡ Some x = ap (option_map id_of) (sym k) ∙ entry_placed es x i p in
        ((i, slice_get_within es i e k, get_or_from_slice_get es i e e k), cc)

-- ---- the verdict

module _ (nothing : NothingConflicts) (settled : DependenciesAreSettled) (b : Basis) (home : Home) (now : ℕ) (book : verdicts.Book)
    (t : TransactionValue) (same : b.numbers ≡ home.cluster) (text : IsText b t) (texts : AreTexts b book.entries) where
  abbrev S : ℕ
  S = home.shard

  -- what conflicts in the laws does so for the verdict
  conflict_here : (e : EntryValue) (y : Id) → Contains book.entries e → id e.transaction ≡ y →
      conflict_in b.numbers S (b.text (id t)) (b.text y) ≡ true → conflict_in home.cluster S t e.transaction ≡ true
  conflict_here e y i p h =
      let u : b.text y ≡ e.transaction = ap b.text (sym p) ∙ texts e i in
      (λ j. conflict_in (sym same j) S (sym text j) (sym u j)) ∙ h

  clear_entry : (o : Option EntryValue) (y : Id) → entry_with book.entries y ≡ o → IsLetStand home now book t →
      conflict_in b.numbers S (b.text (id t)) (b.text y) ≡ true → is_held (vote_at o) (outcome_at o) ≡ false
  clear_entry None y p v h = refl
  clear_entry (Some e) y p v h =
      let i = is_entry book.entries y e p in
      held e.vote (decision_of e) (elim (cases_Bool (stands e)) [
        | inl k ↦ absurd
            (let impossible : true ≡ false = sym (conflict_here e y i.0 i.1 h) ∙ nothing.each home now book t v e i.0 k in cc)
        | inr k ↦ k
      ])

  ready : verdict home now book t ≡ given.Commit → (y : Id) → depends_on b.numbers S (b.text (id t)) y ≡ true →
      outcome_at (entry_with book.entries y) ≡ Some Commit
  ready v y h =
      let k : depends_on home.cluster S t y ≡ true = (λ j. depends_on (sym same j) S (sym text j) y) ∙ h in
      let r = hit_of (is_dependency_on home.cluster S y) t.reads k in
      let q = and_parts (is_dependency home r.0) (bytes_eq (r.0).version.id y) r.2 in
      let s = settled.each home now book t v r.0 r.1 q.0 in
      let found : entry_with book.entries (r.0).version.id ≡ Some s.entry = ap (option_and_then (slice_get book.entries)) s.found ∙ s.at in
      let P : Id → Type 0 = λ z. outcome_at (entry_with book.entries z) ≡ Some Commit in
      subst P ((bytes_eq-Decides (r.0).version.id y).0 q.1)
      (ap outcome_at found ∙ ap (option_map shown.decision_of) s.committed)

pub verdicts_are_sound : NothingConflicts → DependenciesAreSettled → VerdictsAreSound
verdicts_are_sound nothing settled b home now book cells t same text texts = record {
  clear = λ v y h. clear_entry nothing settled b home now book t same text texts (entry_with book.entries y) y refl v h;
  ready = λ v y h. ready nothing settled b home now book t same text texts v y h;
}
