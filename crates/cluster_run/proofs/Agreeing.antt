-- Every run without a breach agrees.
use Rattle.cluster_run.proofs.Members.{any_of}
use Rattle.std.proofs.Common.{◌≡◌, ℕ, Bool, true, false, cond, ◌&&◌, List, [], ◌∷◌, ◌++◌, Option, Some, None, refl, sym, ap, subst, ◌∙◌}
use Rattle.std.proofs.Common.{map, arith}
use Rattle.std.specs.Prelude.{Contains, Result, Ok, Err, find}
use Rattle.std.specs.List.{IsDistinct, flat_map, range_with_len}
use Rattle.std.specs.Option.{option_map_or}
use Rattle.std.specs.Str.{bytes_eq}
use Rattle.std.proofs.lemmas.Bool.{and_from}
use Rattle.basil_types.specs.declared.party.Party.TheVariants.{Replica}
use Rattle.basil_types.specs.declared.party.Decision.{Decision}
use Rattle.basil_types.specs.declared.party.Decision.TheVariants.{Commit, Abort}
use Rattle.basil_types.specs.Transaction.{TransactionValue, id}
use Rattle.certificates.specs.Refusals.{decision_of, refusal}
use Rattle.basil_types.specs.Decision.{same_decision}
use Rattle.fallback_leader.specs.Elections.{AreApart}
use Rattle.frame_views.specs.Values.{CommittedValue}
use Rattle.premise_watch.specs.Breaches.{said}
use Rattle.txn_table.specs.Tables.{ids_of}
use Rattle.replica_core.specs.Replicas.{BookValue, empty_book}
use Rattle.node_steps.specs.Pens.{PenValue}
use Rattle.agreement_laws.specs.Certificates as can
use Rattle.agreement_laws.specs.Invariants.{Invariant}
use Rattle.agreement_laws.specs.Laws.{Agreement, FromInvariant, HoldsAtStart}
use Rattle.agreement_laws.specs.Runs as runs
use Rattle.cluster_run.specs.declared.fault.WorldFault.{WorldFault}
use Rattle.cluster_run.specs.declared.fault.WorldFault.TheVariants as fault
pub use Rattle.cluster_run.specs.Abstract.{first_text as look_up}
use Rattle.cluster_run.specs.Abstract.{has_id, no_transaction}
use Rattle.cluster_run.specs.Acting.{FindsEach, node}
use Rattle.cluster_run.specs.Events.{EventValue, happens, kept, run}
use Rattle.cluster_run.specs.Headline.{proves, Agreed, RunsAgree}
use Rattle.cluster_run.specs.Settings.{Lookup, basis_of}
use Rattle.cluster_run.specs.States.{Setup, IsSetup, is_faulty, Standing, is_at, first_standing, shard_standing, State, start}
use Rattle.cluster_run.proofs.Certs.{none_forged, carries}
use Rattle.cluster_run.proofs.Eventing.{happens_keeps}
use Rattle.cluster_run.proofs.Finding.{same_true, same_self, true_false, ok_is}
use Rattle.cluster_run.proofs.Parting.{Laws, between}
use Rattle.cluster_run.proofs.Running.{book_of, book_at, aborted_in, abs, scene, set, FitsTexts, Inv, backed}
use Rattle.cluster_run.proofs.Sanity.{sane}

-- ---- the start

pub record IsEmpty (b : BookValue) : Type 0 where
  pub entries : b.entries ≡ []
  pub logged : b.logged ≡ []
  pub kept : b.kept ≡ []

empty : (pen : PenValue) → IsEmpty (empty_book pen)
empty pen = record { entries = refl; logged = refl; kept = refl }

abbrev AllEmpty : List Standing → Type 0
AllEmpty [] = Unit {0}
AllEmpty (x ∷ xs) = IsEmpty x.book × AllEmpty xs

found_empty : (p : Standing → Bool) (xs : List Standing) → AllEmpty xs → IsEmpty (book_of (find p xs))
found_empty p [] a = empty (record { spent = 0; left = 0 })
found_empty p (x ∷ xs) a = by (p x) (found_empty p xs a.1)
  where
    by : (b : Bool) → IsEmpty (book_of (find p xs)) → IsEmpty (book_of (cond b (Some x) (find p xs)))
    by true r = a.0
    by false r = r

shard_empty : (s : Setup) (shard : ℕ) (ns : List ℕ) → AllEmpty (map (first_standing s shard) ns)
shard_empty s shard [] = tt
shard_empty s shard (n ∷ ns) = (empty (s.kit.pen (Replica shard n)), shard_empty s shard ns)

joined_empty : (xs ys : List Standing) → AllEmpty xs → AllEmpty ys → AllEmpty (xs ++ ys)
joined_empty [] ys a b = b
joined_empty (x ∷ xs) ys a b = (a.0, joined_empty xs ys a.1 b)

all_empty : (s : Setup) (ns : List ℕ) → AllEmpty (flat_map (shard_standing s) ns)
all_empty s [] = tt
all_empty s (n ∷ ns) =
    joined_empty (shard_standing s n) (flat_map (shard_standing s) ns)
    (shard_empty s n (range_with_len 0 (Rattle.quorum_laws.specs.Numbers.replicas s.cluster.f))) (all_empty s ns)

module _ (at_start : HoldsAtStart) (s : Setup) where
  pub start_empty : (a c : ℕ) → IsEmpty (book_at (start s) a c)
  start_empty a c = found_empty (is_at a c) (start s).replicas (all_empty s (range_with_len 0 s.cluster.shards))

  node_empty : (b : BookValue) → IsEmpty b → runs.start.nodes 0 0 ≡ node [] b
  node_empty b e = sym (λ i. record { own = []; book = Rattle.cluster_run.specs.Acting.slots (e.entries i) (e.logged i) })

  abs_start : runs.start ≡ abs (start s)
  abs_start = λ i. record { nodes = λ a c. node_empty (book_at (start s) a c) (start_empty a c) i; aborted = λ x. false }

  distinct_none : IsDistinct bytes_eq []
  unfolding IsDistinct
  distinct_none = tt

  apart_none : AreApart []
  unfolding IsDistinct
  apart_none x view = tt

  pub holds_at_start : Inv s (start s)
  holds_at_start = record {
    faulty = refl;
    words = λ n i. absurd (omega (arith, i.1));
    spelled = λ t i. absurd (omega (arith, i.1));
    unique = λ t u i j e. absurd (omega (arith, i.1));
    proofs = λ p i. absurd (omega (arith, i.1));
    sized = λ a c. let e = start_empty a c in record {
      entries = λ x i. let j = subst (λ l. Contains l x) e.entries i in absurd (omega (arith, j.1));
      logged = λ x i. let j = subst (λ l. Contains l x) e.logged i in absurd (omega (arith, j.1));
    };
    fine = λ tx f. record {
      invariant = subst (Invariant (set s tx)) abs_start (at_start (set s tx));
      order = λ a c n. let e = start_empty a c in record {
        looked = subst (FindsEach tx) (sym e.entries) tt;
        distinct = subst (λ es. IsDistinct bytes_eq (ids_of es)) (sym e.entries) distinct_none;
        apart = subst AreApart (sym e.kept) apart_none;
        kept = λ k i. let j = subst (λ l. Contains l k) e.kept i in absurd (omega (arith, j.1));
      };
    };
  }

-- ---- the run

module _ (law : Laws) (s : Setup) (ok : IsSetup s) where
  kept_keeps : (e : EventValue) (r : Result State WorldFault) (st t : State) → Inv s st → happens s e st ≡ r → kept st r ≡ Ok t → Inv s t
  kept_keeps e (Ok after) st t inv i h = subst (Inv s) (ok_is after t (kept st (Ok after)) refl h) (happens_keeps law s ok e st after inv i)
  kept_keeps e (Err (fault.Broken b)) st t inv i h = absurd cc
  kept_keeps e (Err (fault.PoolFull messages bytes)) st t inv i h =
      subst (Inv s) (ok_is st t (kept st (Err (fault.PoolFull messages bytes))) refl h) inv
  kept_keeps e (Err (fault.Call f)) st t inv i h = subst (Inv s) (ok_is st t (kept st (Err (fault.Call f))) refl h) inv
  kept_keeps e (Err (fault.Exhausted party)) st t inv i h = subst (Inv s) (ok_is st t (kept st (Err (fault.Exhausted party))) refl h) inv

  pub run_keeps : (es : List EventValue) (st t : State) → Inv s st → run s es st ≡ Ok t → Inv s t
  run_keeps [] st t inv h = subst (Inv s) (ok_is st t (run s [] st) refl h) inv
  run_keeps (e ∷ es) st t inv h =
      let b = between (kept st (happens s e st)) (run s es) t h in
      run_keeps es b.start t (kept_keeps e (happens s e st) st b.start inv refl b.first) b.second

-- ---- agreement

pub looked : (ts : List TransactionValue) (all : (t u : TransactionValue) → Contains ts t → Contains ts u → id t ≡ id u → t ≡ u)
    (t : TransactionValue) → Contains ts t → look_up ts (id t) ≡ t
looked ts all t i = by (find (has_id (id t)) ts) refl
  where
    by : (o : Option TransactionValue) → find (has_id (id t)) ts ≡ o → option_map_or (λ (t : TransactionValue). t) o no_transaction ≡ t
    by None e = true_false (has_id (id t) t) (same_self (id t)) (Rattle.cluster_run.proofs.Seeing.find_none (has_id (id t)) ts e t i)
    by (Some u) e = let r = Rattle.cluster_run.proofs.Seeing.find_some (has_id (id t)) ts u e in all u t r.0 i (same_true (id u) (id t) r.1)

is_commit_by : (d : Decision) → same_decision d Commit ≡ true → d ≡ Commit
is_commit_by Commit h = refl
is_commit_by Abort h = absurd cc

module _ (law : Laws) (agreement : FromInvariant Agreement) (s : Setup) (ok : IsSetup s) (st : State) (inv : Inv s st) where
  abbrev pub TX : Lookup
  TX = look_up st.watch.texts

  pub fits : FitsTexts TX st
  fits t i = looked st.watch.texts inv.unique t i

  pub can_commit : (p : CommittedValue) → Contains st.certified p → proves Commit p ≡ true →
      can.CanCommit (set s TX) (runs.signed_of (abs st)) (id p.transaction)
  can_commit p i c =
      let k = inv.proofs p i in
      let d : decision_of p.certificate.body ≡ Commit = is_commit_by (decision_of p.certificate.body) c in
      let no : refusal (said st.watch) s.cluster p.transaction Commit p.certificate ≡ None =
      sym (ap (λ (d : Decision). refusal (said st.watch) s.cluster p.transaction d p.certificate) d) ∙ k.proven in
      let commits = (law.exactly (said st.watch) s.cluster p.transaction Commit p.certificate ok.setting k.fits k.form).0 no in
      (law.certificates (said st.watch) (basis_of s.cluster (λ a c. is_faulty s (Replica a c)) TX) (runs.signed_of (abs st))
      (none_forged (scene s TX st) (backed law.words_tell s st inv.faulty inv.words TX)) p.transaction (fits p.transaction k.seen)
      p.certificate k.fits
      (carries s.cluster (λ a c. is_faulty s (Replica a c)) TX p.certificate.body (λ u i. fits u (k.nested u i)))).commits commits

  pub agreed : Agreed st
  agreed p q i j e c a =
      let x = id p.transaction in
      let none : aborted_in st x ≡ false =
      (agreement (set s TX) (sane law.sane s.cluster (λ a c. is_faulty s (Replica a c)) TX ok.few) (abs st)
      (inv.fine TX fits).invariant).none_shown x (can_commit p i c) in
      let shown : aborted_in st x ≡ true =
      any_of (λ (r : CommittedValue). bytes_eq x (id r.transaction) && proves Abort r) st.certified q j
      (and_from _ _ (ap (bytes_eq x) (sym e) ∙ same_self x) a) in
      true_false (aborted_in st x) shown none

pub runs_agree : Laws → HoldsAtStart → FromInvariant Agreement → RunsAgree
runs_agree law at_start agreement s ok es st h =
    agreed law agreement s ok st (run_keeps law s ok es (start s) st (holds_at_start at_start s) h)
