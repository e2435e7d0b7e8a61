-- What committed transactions of correct clients read.
use Rattle.std.proofs.Common.{◌≡◌, ℕ, true, false, inl, inr, List, Option, Some, None, refl, ap, sym, ◌∙◌, subst}
use Rattle.std.specs.List.{Contains}
use Rattle.std.proofs.lemmas.Bool.{false_from_ne_true, and_from, eq-eqb}
use Rattle.basil_types.specs.declared.replayed.Latest.{Latest}
use Rattle.basil_types.specs.declared.transaction.parts.ReadPart.{ReadPart}
use Rattle.basil_types.specs.declared.version.Version.{Version}
use Rattle.basil_types.specs.Latest.{IsLatest}
use Rattle.basil_types.specs.Transaction.{TransactionValue, id, version_of, writes_key}
use Rattle.basil_types.specs.Version.{genesis, below}
use Rattle.basil_types.proofs.ReplayLaws.{left_written}
use Rattle.basil_types.proofs.VersionLaws.{genesis_below}
use Rattle.txn_meta.specs.Conflicts.{crosses, conflict_in}
use Rattle.txn_meta.specs.Form.{form_fault}
use Rattle.txn_meta.specs.Places.{shard_of, involves}
use Rattle.txn_meta.proofs.ConflictLaws.{written_involved}
use Rattle.agreement_laws.specs.Laws as agreed
use Rattle.serial_laws.specs.Bases.{Basis, IsSane, IsOfCorrectClient, setting_of}
use Rattle.serial_laws.specs.Committed.{IsCommitted, IsCommittedBelow, IsShownBelow}
use Rattle.serial_laws.specs.Dependencies.{depends_on}
use Rattle.serial_laws.specs.Invariants.{Invariant}
use Rattle.serial_laws.specs.Laws.{SettingsAreSane, NoneBetween, OneOfEachVersion, ReadsAreLatest, FromInvariant}
use Rattle.serial_laws.specs.Reads.{version_found, IsTaken}
use Rattle.serial_laws.specs.Runs.{State}
use Rattle.serial_laws.proofs.Forms.{IsGood, good}
use Rattle.serial_laws.proofs.Sanity.{conflicts, reads_involve, depended}

-- ---- versions tell texts

pub one_of_each_version : FromInvariant OneOfEachVersion
one_of_each_version b few st inv t u ct cu e = sym ct.text ∙ ap (λ (v : Version). b.text v.id) e ∙ cu.text

-- ---- exclusion, of texts

pub none_between : SettingsAreSane → agreed.FromInvariant agreed.Exclusion → FromInvariant NoneBetween
none_between sane exclusion b few st inv t u ct cu r i = false_from_ne_true (crosses u t r) (λ h.
    let s = shard_of b.numbers r.key in
    let apart = exclusion (setting_of b) (sane b few) st.inner inv.agrees (id t) (id u) s ct.can cu.can in
    let none : conflict_in b.numbers s t u ≡ false = (λ j. conflict_in b.numbers s (sym ct.text j) (sym cu.text j)) ∙ apart in
    let impossible : true ≡ false = sym (conflicts b.numbers t u r i h) ∙ none in cc)

-- ---- what correct replicas made sure of

module _ (sane : SettingsAreSane) (voters : agreed.FromInvariant agreed.Voters) (b : Basis) (few : IsSane b) (st : State)
    (inv : Invariant b st) where
  -- its client's signature and its form, of which a correct replica that voted commit made sure
  record IsHeeded (t : TransactionValue) : Type 0 where
    pub formed : st.formed (id t) ≡ true
    pub good : IsGood t

  heeded : (t : TransactionValue) (s : ℕ) → IsCommitted b st t → involves b.numbers t s ≡ true → IsHeeded t
  heeded t s ct i =
      let there = ap (λ z. involves b.numbers z s) ct.text ∙ i in
      let v = voters (setting_of b) (sane b few) st.inner inv.agrees (id t) s ct.can there in
      let h = inv.heedful s v.0 v.2 in
      record { formed = h.signed (id t) v.3; good = good t (ap form_fault (sym ct.text) ∙ h.form (id t) v.3) }

  reader_heeded : (t : TransactionValue) (r : ReadPart) → IsCommitted b st t → Contains t.reads r → IsHeeded t
  reader_heeded t r ct i = heeded t (shard_of b.numbers r.key) ct (reads_involve b.numbers t r i)

  writer_heeded : (u : TransactionValue) (key : List ℕ) → IsCommitted b st u → writes_key u key ≡ true → IsHeeded u
  writer_heeded u key cu w =
      let s = shard_of b.numbers key in
      heeded u s cu (written_involved b.numbers s u key w (eq-eqb s s refl))

  pub above_genesis : (u : TransactionValue) (key : List ℕ) → IsCommitted b st u → writes_key u key ≡ true →
      below genesis (version_of u) ≡ true
  above_genesis u key cu w = genesis_below (version_of u) (writer_heeded u key cu w).good.time

-- ---- reads

module _ (sane : SettingsAreSane) (voters : agreed.FromInvariant agreed.Voters)
    (settled : agreed.FromInvariant agreed.DependencyThere) (between : FromInvariant NoneBetween) (b : Basis)
    (few : IsSane b) (st : State) (inv : Invariant b st) where
  -- nothing that can be committed wrote the key above what was read and below the reader
  not_written : (t u : TransactionValue) (r : ReadPart) → IsCommitted b st t → IsCommitted b st u → Contains t.reads r →
      (v : Version) → v ≡ r.version → (writes_key u r.key ≡ true → below v (version_of u) ≡ true) →
      below (version_of u) (version_of t) ≡ true → writes_key u r.key ≡ false
  not_written t u r ct cu i v e low high = false_from_ne_true (writes_key u r.key) (λ w.
      let l : below r.version (version_of u) ≡ true = subst (λ z. below z (version_of u) ≡ true) e (low w) in
      let impossible : true ≡ false = sym (and_from _ _ w (and_from _ _ l high)) ∙ between b few st inv t u ct cu r i in
      cc)

  -- what a committed transaction depends on had its certificate shown
  dependency_shown : (t y : TransactionValue) (r : ReadPart) → IsCommitted b st t → Contains t.reads r → version_of y ≡ r.version →
      r.dependency ≡ true → st.committed (id y) ≡ true
  dependency_shown t y r ct i same d =
      let s = shard_of b.numbers r.key in
      let own = depended b.numbers t r (id y) i d (ap (λ (z : Version). z.id) (sym same)) in
      let there = ap (λ z. depends_on b.numbers s z (id y)) ct.text ∙ own in
      let o = settled (setting_of b) (sane b few) st.inner inv.agrees (id t) (id y) s ct.can there in
      (inv.heedful s o.0 o.1).ended (id y) o.2

  abbrev IsLatestRead : TransactionValue → ReadPart → Option Latest → Type 0
  IsLatestRead t r o = IsLatest (IsShownBelow b st t) (IsCommittedBelow b st t) r.key o × (r.version ≡ version_found o)

  read_latest : (t : TransactionValue) → IsCommitted b st t → (r : ReadPart) → Contains t.reads r → (o : Option Latest) →
      IsTaken b st.committed r o → IsLatestRead t r o
  read_latest t ct r i None h = (
    λ u cu. not_written t u r ct cu.is i genesis (sym h) (above_genesis sane voters b few st inv u r.key cu.is) cu.below,
    h,
  )
  read_latest t ct r i (Some l) h =
      let y = h.0 in
      let same : version_of y ≡ r.version = h.2 in
      let v = reader_heeded sane voters b few st inv t r ct i in
      let shown : st.committed (id y) ≡ true = elim h.4 [ inl k ↦ k | inr d ↦ dependency_shown t y r ct i same d ] in
      let under = subst (λ z. below z (version_of t) ≡ true) (sym same) (v.good.reads r i) in (
        (
          y,
          record { is = record { text = h.1; shown = shown }; below = under },
          h.3,
          λ u cu above. not_written t u r ct cu.is i (version_of y) same (λ _. above) cu.below,
        ),
        sym same ∙ sym (left_written y r.key l h.3).1,
      )

  pub reads_latest : ReadsAreLatest b st
  reads_latest t ct correct r i =
      let v = reader_heeded sane voters b few st inv t r ct i in
      let own : Contains (b.text (id t)).reads r = subst (λ (z : TransactionValue). Contains z.reads r) (sym ct.text) i in
      let taken = inv.taken (id t) v.formed (subst (IsOfCorrectClient b) (sym ct.text) correct) r own in
      let o = read_latest t ct r i (st.given (id t) r.key) taken in
      record { latest = o.0; version = o.1 }

pub reads_are_latest : SettingsAreSane → agreed.FromInvariant agreed.Voters → agreed.FromInvariant agreed.DependencyThere →
    FromInvariant NoneBetween → FromInvariant ReadsAreLatest
reads_are_latest sane voters settled between b few st inv = reads_latest sane voters settled between b few st inv
