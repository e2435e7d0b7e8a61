-- The answer to a writeback: an outcome, and each vote that it releases.
use Rattle.std.proofs.Common.{◌≡◌, ℕ, suc, ◌≤◌, Bool, List, [], ◌∷◌, ◌++◌, Option, Some, None, refl, sym, ap, subst, ◌∙◌, inl, inr, arith}
use Rattle.std.proofs.Common.{append_assoc}
use Rattle.std.specs.Prelude.{Contains, option_map, option_and_then, slice_get, slice_set}
use Rattle.std.specs.List.{IsDistinct}
use Rattle.std.specs.Option.{option_map_or}
use Rattle.std.specs.Str.{bytes_eq}
use Rattle.basil_types.specs.declared.party.Decision.{Decision}
use Rattle.basil_types.specs.Words.{SignedWords}
use Rattle.txn_table.specs.Entries.{EntryValue, decision_of, voted}
use Rattle.txn_table.specs.Tables.{id_of, ids_of, entry_with}
use Rattle.replica_core.specs.Replicas.{ReplicaSelf, LoggedEntry, Done}
use Rattle.replica_core.specs.Signing.{vote_words, signature}
use Rattle.replica_core.specs.Writebacks.{release_entry, release_one, release_all}
use Rattle.agreement_laws.specs.Words as laws
use Rattle.agreement_laws.specs.Replicas as acts
use Rattle.agreement_laws.specs.Replicas.{May}
use Rattle.agreement_laws.specs.Runs.{Node}
use Rattle.agreement_laws.specs.Certificates.{Signed}
use Rattle.cluster_run.specs.Settings.{Lookup, setting, words_as}
use Rattle.law_joins.specs.Shown.{decision_of as decision_as}
use Rattle.cluster_run.specs.Acting.{slots, node, Leads}
use Rattle.law_joins.specs.Books.{vote_at, outcome_at, IsLike}
use Rattle.agreement_laws.specs.Settings as settings
use Rattle.cluster_run.proofs.Members.{in_cases, in_head, in_rest}
use Rattle.cluster_run.proofs.Finding.{entry_found}
use Rattle.cluster_run.proofs.Placing.{got_other, ids_set, entry_got, changed_got, outcomes_same, outcomes_set}
use Rattle.cluster_run.proofs.Slots.{slots_changed}
use Rattle.cluster_run.proofs.Steps.{words_append, one_act, then_goes}
use Rattle.cluster_run.proofs.Votes.{same_node}

-- ---- votes that are ready to be released

-- in each book that is like this one as far as the vote goes, it is lawful
pub record IsReady (c : settings.Setting) (signed : Signed) (aborted : laws.Id → Bool) (s : ℕ) (es : List EntryValue)
    (ls : List LoggedEntry) (p : ℕ) (d : Decision) : Type 0 where
  pub entry : EntryValue
  pub at : slice_get es p ≡ Some entry
  pub lawful : (other : acts.Book) → IsLike (slots es ls) other (id_of entry) →
      May c signed aborted s other (id_of entry) (acts.Votes (decision_as d))

-- the places rise from a floor
abbrev pub Rise : (floor : ℕ) → List (ℕ × Decision) → Type 0
Rise floor [] = Unit {0}
Rise floor (r ∷ rs) = (floor ≤ r.0) × Rise (suc r.0) rs

above : (floor : ℕ) (rs : List (ℕ × Decision)) (r : ℕ × Decision) → Rise floor rs → Contains rs r → floor ≤ r.0
above floor [] r a i = absurd (omega (arith, i.1))
above floor (q ∷ rs) r a i = elim (in_cases r q rs i) [
  | inl same ↦ subst (λ (z : ℕ × Decision). floor ≤ z.0) same a.0
  | inr j ↦ let k = above (suc q.0) rs r a.1 j in omega (arith, a.0, k)
]

outcome_as : (o : Option EntryValue) → outcome_at o ≡ option_map decision_as (option_and_then decision_of o)
outcome_as None = refl
outcome_as (Some e) = refl

-- an entry that is replaced by one of the same transaction and outcome leaves the others ready
module _ (c : settings.Setting) (signed : Signed) (aborted : laws.Id → Bool) (s : ℕ) (es : List EntryValue) (ls : List LoggedEntry)
    (p : ℕ) (e x : EntryValue) (at : slice_get es p ≡ Some e) (text : x.transaction ≡ e.transaction)
    (outcome : decision_of x ≡ decision_of e) (distinct : IsDistinct bytes_eq (ids_of es)) where
  outcome_stays : (z : List ℕ) → outcome_at (entry_with (slice_set es p x) z) ≡ outcome_at (entry_with es z)
  outcome_stays z =
      outcome_as (entry_with (slice_set es p x) z)
      ∙ ap (option_map decision_as)
      (outcomes_same es (slice_set es p x) (ids_set es p e x at text) (outcomes_set es p e x at outcome) z)
      ∙ sym (outcome_as (entry_with es z))

  pub ready_set : (q : ℕ) (d : Decision) → (q ≡ p → ⊥) → IsReady c signed aborted s es ls q d →
      IsReady c signed aborted s (slice_set es p x) ls q d
  ready_set q d n r =
      let there : slice_get (slice_set es p x) q ≡ Some r.entry = got_other es p q x n ∙ r.at in
      let apart = subst (IsDistinct bytes_eq) (sym (ids_set es p e x at text)) distinct in
      record {
        entry = r.entry;
        at = there;
        lawful = λ other like. r.lawful other (record {
          outcomes = λ z. like.outcomes z ∙ outcome_stays z;
          vote =
              like.vote ∙ ap vote_at (entry_got (slice_set es p x) q r.entry apart there ∙ sym (entry_got es q r.entry distinct r.at));
        });
      }

-- ---- each release is a vote

module _ (faulty : ℕ → ℕ → Bool) (tx : Lookup) (signed : Signed) (aborted : laws.Id → Bool) (me : ReplicaSelf)
    (own : List SignedWords) where
  abbrev C : Rattle.agreement_laws.specs.Settings.Setting
  C = setting me.home.cluster faulty tx

  abbrev S : ℕ
  S = me.home.shard

  abbrev N : Done → Node
  N done = node (own ++ done.signed) done.book

  abbrev G : Node → Node → Type 0
  G p q = Leads C signed aborted S me.index p q

  abbrev R : List EntryValue → List LoggedEntry → ℕ × Decision → Type 0
  R es ls r = IsReady C signed aborted S es ls r.0 r.1

  -- one release
  release_goes : (done : Done) (r : ℕ × Decision) → IsDistinct bytes_eq (ids_of done.book.entries) →
      (ready : R done.book.entries done.book.logged r) → G (N done) (N (release_entry me r.0 r.1 done ready.entry))
  release_goes done r distinct ready =
      let es = done.book.entries in
      let ls = done.book.logged in
      let e = ready.entry in
      let given = signature me done.book.pen (vote_words me (id_of e) r.1) in
      one_act C signed aborted S me.index (N done) (id_of e) (acts.Votes (decision_as r.1)) _
      (ready.lawful (slots es ls) (record { outcomes = λ z. refl; vote = refl }))
      (same_node _ _ _ _
      (sym (ap words_as (sym (append_assoc own done.signed (vote_words me (id_of e) r.1 ∷ [])))
      ∙ words_append (own ++ done.signed) (vote_words me (id_of e) r.1 ∷ [])))
      (sym (ap (λ (fs : List EntryValue). slots fs ls) (sym (changed_got (voted r.1 given None) es r.0 e distinct ready.at))
      ∙ slots_changed (voted r.1 given None) (λ t. record t { vote = acts.Cast (decision_as r.1) }) (λ e. refl) (λ e l. refl) es ls
      (id_of e) e (sym (entry_found (id_of e) es) ∙ entry_got es r.0 e distinct ready.at))))

  pub release_all_goes : (rs : List (ℕ × Decision)) (done : Done) (floor : ℕ) → IsDistinct bytes_eq (ids_of done.book.entries) →
      Rise floor rs → ((r : ℕ × Decision) → Contains rs r → R done.book.entries done.book.logged r) →
      G (N done) (N (release_all me rs done))
  release_all_goes [] done floor distinct rise each =
      Rattle.cluster_run.proofs.Steps.stays C signed aborted S me.index (N done) (N done) refl
  release_all_goes (r ∷ rs) done floor distinct rise each =
      let es = done.book.entries in
      let ls = done.book.logged in
      let first = each r (in_head r rs) in
      let e = first.entry in
      let next = release_entry me r.0 r.1 done e in
      let given = signature me done.book.pen (vote_words me (id_of e) r.1) in
      let x = voted r.1 given None e in
      let is : release_one me r done ≡ next = ap (λ (o : Option EntryValue). option_map_or (release_entry me r.0 r.1 done) o done) first.at
      in
      let after : next.book.entries ≡ slice_set es r.0 x =
      ap (λ (o : Option EntryValue). option_map_or (λ (e : EntryValue). slice_set es r.0 (voted r.1 given None e)) o es) first.at in
      let ids : ids_of next.book.entries ≡ ids_of es = ap ids_of after ∙ ids_set es r.0 e x first.at refl in
      let distinct' : IsDistinct bytes_eq (ids_of next.book.entries) = subst (IsDistinct bytes_eq) (sym ids) distinct in
      let each' : (q : ℕ × Decision) → Contains rs q → R next.book.entries ls q =
      λ q i. subst (λ (fs : List EntryValue). R fs ls q) (sym after)
      (ready_set C signed aborted S es ls r.0 e x first.at refl refl distinct q.0 q.1
      (let k = above (suc r.0) rs q rise.1 i in λ j. omega (arith, k, j)) (each q (in_rest r q rs i))) in
      then_goes C signed aborted S me.index (N done) (N next) (N (release_all me (r ∷ rs) done))
      (release_goes done r distinct first)
      (subst (λ (z : Done). G (N next) (N (release_all me rs z))) (sym is) (release_all_goes rs next (suc r.0) distinct' rise.1 each'))
