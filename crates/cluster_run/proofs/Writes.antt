-- The answer to a writeback: an outcome, and what it releases.
use Rattle.std.proofs.Common.{◌≡◌, ℕ, suc, ◌+◌, ◌≤◌, Bool, true, false, cond, List, [], ◌∷◌, ◌++◌, length, Option, Some, None, refl, sym}
use Rattle.std.proofs.Common.{ap, subst, ◌∙◌, inl, inr, arith, append-nil}
use Rattle.std.specs.Prelude.{option_map, option_and_then, slice_get, slice_set, is_some, filter_map, Ok}
use Rattle.std.specs.List.{IsDistinct, enumerate_from}
use Rattle.std.specs.Option.{option_map_or}
use Rattle.std.specs.Str.{bytes_eq}
use Rattle.std.proofs.lemmas.Bool.{cases_eq}
use Rattle.basil_types.specs.declared.party.Decision.{Decision}
use Rattle.basil_types.specs.Transaction.{TransactionValue, id}
use Rattle.basil_types.specs.Words.{SignedWords}
use Rattle.certificates.specs.Refusals.{decision_of as decided_by}
use Rattle.frame_views.specs.Spelling.{certificate_bytes}
use Rattle.frame_views.specs.Values.{CertificateValue, WritebackValue}
use Rattle.txn_table.specs.declared.released.Home.{Home}
use Rattle.txn_table.specs.declared.released.Supposed.{Supposed}
use Rattle.txn_table.specs.Entries.{EntryValue, OutcomeValue, decided}
use Rattle.txn_table.specs.Released.{released_vote, released}
use Rattle.txn_table.specs.Tables.{id_of, ids_of, place_of, changed, entry_with}
use Rattle.replica_core.specs.Replicas.{ReplicaSelf, BookValue, Done, quiet}
use Rattle.replica_core.specs.Known.{changed_at, logged_with, outcome_with}
use Rattle.replica_core.specs.Signing.{exhausted}
use Rattle.replica_core.specs.Writebacks.{releases, with_outcome, outcome_done, end_with, end_unless_ended, answer_writeback}
use Rattle.agreement_laws.specs.Words as laws
use Rattle.agreement_laws.specs.Replicas as acts
use Rattle.agreement_laws.specs.Replicas.{May}
use Rattle.agreement_laws.specs.Certificates as can
use Rattle.cluster_run.specs.Settings.{Lookup, basis_of, setting, words_as}
use Rattle.law_joins.specs.Shown.{decision_of as decision_as}
use Rattle.cluster_run.specs.Acting.{cell_in, slots, node, Leads, FindsEach}
use Rattle.law_joins.specs.Books.{outcome_at as outcome_in, ended, IsLike, IsReleasedWell, ReleasesAreSound}
use Rattle.cluster_run.proofs.Finding.{found, entry_found, placed_found, are_texts, ok_is}
use Rattle.cluster_run.proofs.Placing.{got_same, got_other, ids_set}
use Rattle.cluster_run.proofs.Slots.{slots_made}
use Rattle.cluster_run.proofs.Steps.{words_none, unless_ok, stays, then_goes, one_act}
use Rattle.cluster_run.proofs.Votes.{same_node}
use Rattle.cluster_run.proofs.Releases.{IsReady, Rise, release_all_goes}

-- ---- what is released rises

abbrev pub more : {Y : Type 0} → Option Y → List Y → List Y
more None ys = ys
more (Some y) ys = y ∷ ys

pub mapped : {X Y : Type 0} (h : X → Option Y) (x : X) (xs : List X) (o : Option Y) → h x ≡ o → filter_map h (x ∷ xs)
    ≡ more o (filter_map h xs)
mapped h x xs o e = ap (λ o. more o (filter_map h xs)) e

module _ (home : Home) (s : Supposed) (es : List EntryValue) where
  abbrev F : ℕ × EntryValue → Option (ℕ × Decision)
  F x = option_map (λ vote. (x.0, vote)) (released_vote home s es x.0 x.1)

  lower : (floor k : ℕ) (rs : List (ℕ × Decision)) → floor ≤ k → Rise k rs → Rise floor rs
  lower floor k [] l a = tt
  lower floor k (r ∷ rs) l a = (omega (arith, l, a.0), a.1)

  rise_from : (k : ℕ) (rest : List EntryValue) → Rise k (filter_map F (enumerate_from k rest))
  rise_from k [] = tt
  rise_from k (e ∷ rest) =
      let e1 : k + 1 ≡ suc k = omega arith in
      by (released_vote home s es k e) refl
      (subst (λ (n : ℕ). Rise n (filter_map F (enumerate_from (k + 1) rest))) e1 (rise_from (k + 1) rest))
    where
      by : (o : Option Decision) → released_vote home s es k e ≡ o → Rise (suc k) (filter_map F (enumerate_from (k + 1) rest)) →
          Rise k (filter_map F ((k, e) ∷ enumerate_from (k + 1) rest))
      by None f a =
          subst (Rise k) (sym (mapped F (k, e) (enumerate_from (k + 1) rest) None (ap (option_map (λ vote. (k, vote))) f)))
          (lower k (suc k) (filter_map F (enumerate_from (k + 1) rest)) (omega arith) a)
      by (Some d) f a =
          subst (Rise k) (sym (mapped F (k, e) (enumerate_from (k + 1) rest) (Some (k, d)) (ap (option_map (λ vote. (k, vote))) f)))
          (omega arith, a)

  pub released_rise : Rise 0 (released home s es)
  released_rise = rise_from 0 es

-- a place of an id has an entry
no_gap : (es : List EntryValue) (x : List ℕ) (p : ℕ) → place_of es x ≡ Some p → slice_get es p ≡ None → ⊥
no_gap es x p h got =
    let none : found x es ≡ None = sym (entry_found x es) ∙ ap (option_and_then (slice_get es)) h ∙ got in
    let q : true ≡ false = sym (ap is_some h) ∙ placed_found x es ∙ ap is_some none in
    cc

-- ---- a writeback

module _ (law : ReleasesAreSound) (faulty : ℕ → ℕ → Bool) (tx : Lookup) (signed : can.Signed) (aborted : laws.Id → Bool)
    (me : ReplicaSelf) (own : List SignedWords) (book : BookValue) where
  abbrev C : Rattle.agreement_laws.specs.Settings.Setting
  C = setting me.home.cluster faulty tx

  abbrev S : ℕ
  S = me.home.shard

  abbrev To : Done → Type 0
  To done = Leads C signed aborted S me.index (node own book) (node (own ++ done.signed) done.book)

  abbrev MayEnd : List ℕ → Decision → Type 0
  MayEnd x d = May C signed aborted S (slots book.entries book.logged) x (acts.Ends (decision_as d))

  ends_go : (t : TransactionValue) (d : Decision) (c : CertificateValue) → MayEnd (id t) d → To (quiet (with_outcome book t d c))
  ends_go t d c m =
      one_act C signed aborted S me.index (node own book) (id t) (acts.Ends (decision_as d)) _ m
      (same_node _ _ _ _ (append-nil (words_as own) ∙ sym (words_none own))
      (sym (slots_made (decided d (certificate_bytes c)) (λ t. record t { outcome = Some (decision_as d) }) (λ e. refl)
      (λ e l. refl) book.entries book.logged t)))

  -- where the transaction is known, the book with its outcome
  placed_set : (t : TransactionValue) (d : Decision) (c : CertificateValue) (p : ℕ) (e : EntryValue) → place_of book.entries (id t)
      ≡ Some p → slice_get book.entries p ≡ Some e →
      (with_outcome book t d c).entries ≡ slice_set book.entries p (decided d (certificate_bytes c) e)
  placed_set t d c p e h got =
      let f = decided d (certificate_bytes c) in
      ap (λ (b : Bool). changed_at f (id t) (cond b book.entries (book.entries ++ Rattle.txn_table.specs.Entries.arrived t ∷ [])))
      (ap is_some h)
      ∙ ap (λ (o : Option ℕ). option_map_or (λ place. changed f place book.entries) o book.entries) h
      ∙ ap (λ (o : Option EntryValue). option_map_or (λ e. slice_set book.entries p (f e)) o book.entries) got

  abbrev Cells : laws.Id → Option acts.LogCell
  Cells x = cell_in (logged_with book.logged x)

  abbrev Lawful : BookValue → Decision → EntryValue → Type 0
  Lawful b v e = (other : acts.Book) → IsLike (slots b.entries b.logged) other (id_of e) →
      May C signed aborted S other (id_of e) (acts.Votes (decision_as v))

  -- what is released is ready once the outcome stands
  ready : (t : TransactionValue) (d : Decision) (c : CertificateValue) (p : ℕ) (e : EntryValue) → place_of book.entries (id t) ≡ Some p →
      slice_get book.entries p ≡ Some e → (k : ℕ) (v : Decision) →
      IsReleasedWell (basis_of me.home.cluster faulty tx) me.home book.entries (ended book.entries Cells (id t) d) k v →
      IsReady C signed aborted S (with_outcome book t d c).entries book.logged k v
  ready t d c p e h got k v w =
      let f = decided d (certificate_bytes c) in
      let after = with_outcome book t d c in
      let is = placed_set t d c p e h got in
      let now : slots after.entries book.logged ≡ ended book.entries Cells (id t) d =
      slots_made f (λ t. record t { outcome = Some (decision_as d) }) (λ e. refl) (λ e l. refl) book.entries book.logged t in
      let lawful : Lawful after v w.entry =
      λ other like. w.lawful signed aborted other (subst (λ (b : acts.Book). IsLike b other (id_of w.entry)) now like) in
      elim (cases_eq k p) [
        | inl i ↦
            let q : Some e ≡ Some w.entry = sym got ∙ ap (slice_get book.entries) (sym i) ∙ w.stands in
            let same : e ≡ w.entry = cc in
            record {
              entry = f e;
              at =
                  ap (λ (l : List EntryValue). slice_get l k) is ∙ ap (slice_get (slice_set book.entries p (f e))) i
                  ∙ got_same book.entries p e (f e) got;
              lawful = subst (Lawful after v) (sym same) lawful;
            }
        | inr n ↦ record {
          entry = w.entry;
          at = ap (λ (l : List EntryValue). slice_get l k) is ∙ got_other book.entries p k (f e) n ∙ w.stands;
          lawful = lawful;
        }
      ]

  outcome_goes : (t : TransactionValue) (d : Decision) (c : CertificateValue) (o : Option ℕ) → FindsEach tx book.entries →
      IsDistinct bytes_eq (ids_of book.entries) → place_of book.entries (id t) ≡ o → MayEnd (id t) d →
      To (outcome_done me book t d c (releases me book.entries o d))
  outcome_goes t d c None looked distinct h m = ends_go t d c m
  outcome_goes t d c (Some p) looked distinct h m = by (slice_get book.entries p) refl
    where
      by : (e : Option EntryValue) → slice_get book.entries p ≡ e → To (outcome_done me book t d c (releases me book.entries (Some p) d))
      by None got = absurd (no_gap book.entries (id t) p h got)
      by (Some e) got =
          let x = decided d (certificate_bytes c) e in
          let is = placed_set t d c p e h got in
          let s : Supposed = record { place = p; outcome = d } in
          then_goes C signed aborted S me.index (node own book) (node (own ++ []) (with_outcome book t d c)) _
          (ends_go t d c m)
          (release_all_goes faulty tx signed aborted me own (releases me book.entries (Some p) d) (quiet (with_outcome book t d c)) 0
          (subst (IsDistinct bytes_eq) (sym (ap ids_of is ∙ ids_set book.entries p e x got refl)) distinct)
          (released_rise me.home s book.entries)
          (λ r i. ready t d c p e h got r.0 r.1 (law (basis_of me.home.cluster faulty tx) me.home s book.entries Cells (id t) r.0 r.1 refl
          distinct (are_texts me.home.cluster faulty tx book.entries looked) h i)))

  end_goes : (t : TransactionValue) (d : Decision) (c : CertificateValue) (done : Done) → FindsEach tx book.entries →
      IsDistinct bytes_eq (ids_of book.entries) → MayEnd (id t) d →
      end_with me book t d c (releases me book.entries (place_of book.entries (id t)) d) ≡ Ok done → To done
  end_goes t d c done looked distinct m h =
      let votes = releases me book.entries (place_of book.entries (id t)) d in
      subst To (unless_ok (exhausted (length votes) book.pen) (outcome_done me book t d c votes) done h)
      (outcome_goes t d c (place_of book.entries (id t)) looked distinct refl m)

  open_by : (o : Option EntryValue) → option_and_then (λ (e : EntryValue). e.outcome) o ≡ None → outcome_in o ≡ None
  open_by None h = refl
  open_by (Some e) h = ap (λ (o : Option OutcomeValue). option_map decision_as (option_map (λ (o : OutcomeValue). o.decision) o)) h

  ended_goes : (t : TransactionValue) (c : CertificateValue) (o : Option OutcomeValue) (done : Done) → FindsEach tx book.entries →
      IsDistinct bytes_eq (ids_of book.entries) → outcome_with book.entries (id t) ≡ o →
      ((slots book.entries book.logged (id t)).outcome ≡ None → MayEnd (id t) (decided_by c.body)) → end_unless_ended me book t c o
      ≡ Ok done → To done
  ended_goes t c (Some outcome) done looked distinct e m h =
      subst To (ok_is (quiet book) done (end_unless_ended me book t c (Some outcome)) refl h)
      (stays C signed aborted S me.index (node own book) _ (same_node _ _ _ _ (sym (words_none own)) refl))
  ended_goes t c None done looked distinct e m h =
      end_goes t (decided_by c.body) c done looked distinct (m (open_by (entry_with book.entries (id t)) e)) h

  pub writeback_goes : (m : WritebackValue) (done : Done) → FindsEach tx book.entries → IsDistinct bytes_eq (ids_of book.entries) →
      ((slots book.entries book.logged (id m.transaction)).outcome ≡ None → MayEnd (id m.transaction) (decided_by m.certificate.body)) →
      answer_writeback me book m ≡ Ok done → To done
  writeback_goes m done looked distinct may h =
      ended_goes m.transaction m.certificate (outcome_with book.entries (id m.transaction)) done looked distinct refl may h
