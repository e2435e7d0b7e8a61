-- What holds in each state of a run.
use Rattle.cluster_run.proofs.Members.{in_cases, in_head, in_rest, some_of}
use Rattle.std.proofs.Common.{◌≡◌, ℕ, ◌==◌, true, false, cond, List, [], ◌∷◌, Option, Some, None, refl, sym, ap, subst, ◌∙◌, inl, inr}
use Rattle.std.proofs.Common.{arith, map}
use Rattle.std.specs.Prelude.{Contains, filter_map}
use Rattle.std.specs.List.{list_any}
use Rattle.std.specs.Str.{bytes_eq}
use Rattle.std.proofs.lemmas.Bool.{and_parts, and_from, or_cases, eqb-true, eq-eqb}
use Rattle.basil_types.specs.declared.party.Party.{Party}
use Rattle.basil_types.specs.declared.party.Party.TheVariants.{Replica, Client}
use Rattle.basil_types.specs.Transaction.{TransactionValue, IsTransaction, id}
use Rattle.basil_types.specs.Words.{SignedWords, words_of, AreWords, WordsTellFields}
use Rattle.certificates.specs.Deciding.{HasGoodForm}
use Rattle.certificates.specs.Refusals.{decision_of, refusal}
use Rattle.frame_views.specs.Fitting.{FitsCertificate, bounds_of}
use Rattle.frame_views.specs.Values.{CommittedValue}
use Rattle.premise_watch.specs.Breaches.{NotedWords, WatchValue, is_noted, said}
use Rattle.premise_watch.specs.Breaches as watch
use Rattle.txn_table.specs.Entries.{same_party}
use Rattle.agreement_laws.specs.Invariants.{Invariant}
use Rattle.agreement_laws.specs.Runs as runs
pub use Rattle.cluster_run.specs.Abstract.{words_by, signed_by, book_of, book_at, aborted_in, abstract_state as abs, setting_with as set}
use Rattle.cluster_run.specs.Answering.{Moment, IsBacked, IsInOrder, IsSized}
use Rattle.cluster_run.specs.Settings.{Lookup, Finds, word_as}
use Rattle.client_core.specs.Clients.{ClientValue}
use Rattle.cluster_run.specs.States.{Setup, is_faulty, Posted, BegunValue, State}
use Rattle.frame_views.specs.Carried.{paired, rival_in}
use Rattle.cluster_run.proofs.Finding.{same_true}
use Rattle.cluster_run.proofs.Writes.{mapped}

-- ---- the state as the argument for agreement sees it

abbrev pub scene : Setup → Lookup → State → Moment
scene s tx st = record {
  cluster = s.cluster;
  faulty = λ shard r. is_faulty s (Replica shard r);
  tx = tx;
  said = said st.watch;
  signed = runs.signed_of (abs st);
  aborted = aborted_in st;
}

-- ---- the invariant

-- a pair that proves its decision by words that were said, and whose texts were seen
pub record IsProof (s : Setup) (w : WatchValue) (p : CommittedValue) : Type 0 where
  pub fits : FitsCertificate (bounds_of s.cluster) p.certificate
  pub form : HasGoodForm p.transaction
  pub seen : Contains w.texts p.transaction
  pub nested : (u : TransactionValue) → Contains (map paired (rival_in p.certificate.body)) u → Contains w.texts u
  pub proven : refusal (said w) s.cluster p.transaction (decision_of p.certificate.body) p.certificate ≡ None

abbrev pub FitsTexts : Lookup → State → Type 0
FitsTexts tx st = (t : TransactionValue) → Contains st.watch.texts t → Finds tx t

-- for a look-up of the seen transactions
pub record Fine (s : Setup) (st : State) (tx : Lookup) : Type 0 where
  pub invariant : Invariant (set s tx) (abs st)
  pub order : (shard r : ℕ) → is_faulty s (Replica shard r) ≡ false → IsInOrder (scene s tx st) shard (book_at st shard r)

pub record Inv (s : Setup) (st : State) : Type 0 where
  pub faulty : st.watch.faulty ≡ s.faulty
  pub words : (n : NotedWords) → Contains st.watch.signed n → AreWords n.words
  pub spelled : (t : TransactionValue) → Contains st.watch.texts t → IsTransaction t
  pub unique : (t u : TransactionValue) → Contains st.watch.texts t → Contains st.watch.texts u → id t ≡ id u → t ≡ u
  pub proofs : (p : CommittedValue) → Contains st.certified p → IsProof s st.watch p
  pub sized : (shard r : ℕ) → IsSized (book_at st shard r)
  pub fine : (tx : Lookup) → FitsTexts tx st → Fine s st tx

-- ---- parties

pub party_same : (p q : Party) → same_party p q ≡ true → p ≡ q
party_same (Replica a b) (Replica c d) h =
    let both = and_parts (a == c) (b == d) h in
    ap (λ (x : ℕ). Replica x b) (eqb-true a c both.0) ∙ ap (λ (y : ℕ). Replica c y) (eqb-true b d both.1)
party_same (Replica a b) (Client n) h = absurd cc
party_same (Client n) (Replica a b) h = absurd cc
party_same (Client n) (Client m) h = ap Client (eqb-true n m h)

pub party_self : (p : Party) → same_party p p ≡ true
party_self (Replica a b) = and_from _ _ (eq-eqb a a refl) (eq-eqb b b refl)
party_self (Client n) = eq-eqb n n refl

-- ---- what is mapped

pub in_mapped : {X Y : Type 0} (h : X → Option Y) (xs : List X) (x : X) (y : Y) → Contains xs x → h x ≡ Some y →
    Contains (filter_map h xs) y
in_mapped h [] x y i e = absurd (omega (arith, i.1))
in_mapped {Y = Y} h (z ∷ zs) x y i e = elim (in_cases x z zs i) [
  | inl same ↦ subst (λ l. Contains l y) (sym (mapped h z zs (Some y) (ap h same ∙ e))) (in_head y (filter_map h zs))
  | inr j ↦ by (h z) refl (in_mapped h zs x y j e)
]
  where
    by : (o : Option Y) → h z ≡ o → Contains (filter_map h zs) y → Contains (filter_map h (z ∷ zs)) y
    by None f k = subst (λ l. Contains l y) (sym (mapped h z zs None f)) k
    by (Some v) f k = subst (λ l. Contains l y) (sym (mapped h z zs (Some v) f)) (in_rest v y (filter_map h zs) k)

-- ---- what was said is signed

module _ (words_tell : WordsTellFields) (s : Setup) (st : State) (faulty : st.watch.faulty ≡ s.faulty)
    (words : (n : NotedWords) → Contains st.watch.signed n → AreWords n.words) where
  pub noted_signed : (p : Party) (x : SignedWords) → AreWords x → list_any (is_noted p (words_of x)) st.watch.signed ≡ true →
      Contains (signed_by st.watch.signed p) x
  noted_signed p x sized h =
      let n = some_of (is_noted p (words_of x)) st.watch.signed h in
      let both = and_parts (same_party p n.one.party) (bytes_eq (words_of n.one.words) (words_of x)) n.passes in
      let same : n.one.words ≡ x =
      words_tell n.one.words x (words n.one n.among) sized (same_true (words_of n.one.words) (words_of x) both.1) in
      in_mapped (words_by p) st.watch.signed n.one x n.among
      (ap (λ b. cond b (Some n.one.words) None) both.0 ∙ ap (λ (w : SignedWords). Some w) same)

  pub backed : (tx : Lookup) → IsBacked (scene s tx st)
  backed tx a r x signature word h sized e =
      elim (or_cases (watch.is_faulty st.watch (Replica a r)) (list_any (is_noted (Replica a r) (words_of x)) st.watch.signed) h) [
        | inl i ↦ inl (ap (λ (ps : List Party). list_any (same_party (Replica a r)) ps) (sym faulty) ∙ i)
        | inr j ↦ inr (in_mapped word_as (signed_by st.watch.signed (Replica a r)) x word (noted_signed (Replica a r) x sized j) e)
      ]

-- ---- what nothing of the argument speaks of

pub elsewhere : (s : Setup) (st : State) (c : List ClientValue) (p : List NotedWords) (b : List BegunValue) (o : List Posted)
    (r : Option ℕ) → Inv s st → Inv s (record st { clients = c; lied = p; begun = b; pool = o; refused = r })
elsewhere s st c p b o r inv = record {
  faulty = inv.faulty;
  words = inv.words;
  spelled = inv.spelled;
  unique = inv.unique;
  proofs = inv.proofs;
  sized = inv.sized;
  fine = λ tx f. let g = inv.fine tx f in record { invariant = g.invariant; order = g.order };
}
