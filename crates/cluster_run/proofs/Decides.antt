-- The answer to a leader's decision.
use Rattle.cluster_run.proofs.Members.{in_cases, in_head, in_rest}
use Rattle.std.proofs.Common.{◌≡◌, ℕ, suc, ◌+◌, ◌*◌, ◌<◌, ◌≤◌, ◌^◌, ◌==◌, Bool, true, false, cond, not, ◌&&◌, List, [], ◌∷◌, ◌++◌, length}
use Rattle.std.proofs.Common.{map, Option, Some, None, refl, sym, ap, subst, ◌∙◌, inl, inr, arith}
use Rattle.std.specs.Prelude.{Ok, nat_lt, nat_le, Contains}
use Rattle.std.specs.List.{count_by}
use Rattle.std.specs.Option.{option_map_or}
use Rattle.std.proofs.lemmas.Bool.{and_parts, eqb-true, leb-true, leb-false, ltb-false}
use Rattle.std.proofs.lemmas.List.Elements.{Contains-append_right, Contains-append_left}
use Rattle.std.proofs.lemmas.List.Sums.{sum_by-cons}
use Rattle.sha2.proofs.Facts256.{length-sha256}
use Rattle.basil_types.specs.Built.{or_else}
use Rattle.basil_types.specs.Lists.{AreItems}
use Rattle.basil_types.specs.declared.party.Party.TheVariants.{Replica}
use Rattle.basil_types.specs.declared.party.Decision.{Decision}
use Rattle.basil_types.specs.declared.party.Decision.TheVariants.{Commit, Abort}
use Rattle.basil_types.specs.Transaction.{TransactionValue, id, canonical}
use Rattle.basil_types.specs.Words.{SignedWords, ElectionWords, ProposalWords, words_of, AreWords}
use Rattle.certificates.specs.Accepted.{Accepted, accepts, first_refused}
use Rattle.basil_types.specs.Decision.{same_decision}
use Rattle.decision_log.specs.Cells.{cell_of, adopt_fault}
use Rattle.decision_log.specs.declared.cell.LogCell.{LogCell}
use Rattle.frame_views.specs.declared.bounds.Bounds.{Bounds}
use Rattle.frame_views.specs.Fitting.{FitsWord, FitsDecide, after_word, bounds_of}
use Rattle.frame_views.specs.Signed.{SignedBy, word_signed, proposal_signed, signed_in}
use Rattle.frame_views.specs.Values.{WordValue, DecideValue, Decide}
use Rattle.quorum_laws.specs.Numbers.{log_quorum, majority}
use Rattle.quorum_laws.specs.Lists.{AreRising}
use Rattle.txn_meta.specs.Places.{log_shard, leader_of}
use Rattle.txn_table.specs.Entries.{EntryValue}
use Rattle.replica_core.specs.declared.refusal.Refusal.TheVariants.{NotLeader, BadElection}
use Rattle.replica_core.specs.Replicas.{ReplicaSelf, BookValue, LoggedEntry, Done}
use Rattle.replica_core.specs.Known.{logged_with, known_of}
use Rattle.replica_core.specs.Signing.{log_words, signature, exhausted}
use Rattle.replica_core.specs.Elections.{not_leader, not_adopted, agreeing, bad_election, adopt_done, adopt_by, answer_decide, fault_of}
use Rattle.replica_core.specs.Elections.{askers_with}
use Rattle.agreement_laws.specs.Words as laws
use Rattle.agreement_laws.specs.Replicas as acts
use Rattle.agreement_laws.specs.Certificates as can
use Rattle.agreement_laws.specs.Lists.{Named, replicas_of, ElectionOfList}
use Rattle.cluster_run.specs.Settings.{Lookup, Finds, setting, word_as}
use Rattle.law_joins.specs.Shown.{decision_of as decision_as}
use Rattle.cluster_run.specs.Acting.{cell_in, node, Leads, FindsEach}
use Rattle.cluster_run.proofs.Finding.{entry_found, looked_found, none_parts, not_not, mapped_none}
use Rattle.cluster_run.proofs.Steps.{words_append, unless_ok, unless_none, one_act}
use Rattle.cluster_run.proofs.Votes.{same_node}
use Rattle.cluster_run.proofs.Logs.{slots_known_put}

pub length_id : (t : TransactionValue) → length (id t) ≡ 32
length_id t = length-sha256 (canonical t)

-- each signature of a list of which none is refused is accepted
pub each_accepted : (A : Accepted) (gs : List SignedBy) → first_refused A gs ≡ None → (g : SignedBy) → Contains gs g → accepts A g ≡ true
each_accepted A [] h g i = absurd (omega (arith, i.1))
each_accepted A (x ∷ gs) h g i =
    let parts = none_parts (λ s. not (accepts A s)) x gs h in
    elim (in_cases g x gs i) [
      | inl e ↦ ap (accepts A) (sym e) ∙ not_not (accepts A x) parts.0
      | inr j ↦ each_accepted A gs parts.1 g j
    ]

-- ---- lists of words

abbrev pub named_of : WordValue → Named
named_of w = record { replica = w.replica; decision = decision_as w.decision }

pub rising : (b : Bounds) (floor : ℕ) (ws : List WordValue) → AreItems (FitsWord b) after_word floor ws →
    AreRising floor b.replicas (replicas_of (map named_of ws))
rising b floor [] h = tt
rising b floor (w ∷ ws) h =
    let e : w.replica + 1 ≡ suc w.replica = omega arith in
    (h.0.above, h.0.below, subst (λ (f : ℕ). AreRising f b.replicas (replicas_of (map named_of ws))) e (rising b (w.replica + 1) ws h.1))

same_named : (d e : Decision) → laws.same_decision (decision_as d) (decision_as e) ≡ same_decision d e
same_named Commit Commit = refl
same_named Commit Abort = refl
same_named Abort Commit = refl
same_named Abort Abort = refl

pub counted : (d : Decision) (ws : List WordValue) →
    count_by (λ (n : Named). laws.same_decision n.decision (decision_as d)) (map named_of ws)
    ≡ count_by (λ (w : WordValue). same_decision w.decision d) ws
counted d [] = refl
counted d (w ∷ ws) =
    sum_by-cons (λ (n : Named). cond (laws.same_decision n.decision (decision_as d)) 1 0) (named_of w) (map named_of ws)
    ∙ ap (λ (b : Bool). cond b 1 0 + count_by (λ (n : Named). laws.same_decision n.decision (decision_as d)) (map named_of ws))
    (same_named w.decision d)
    ∙ ap (λ (k : ℕ). cond (same_decision w.decision d) 1 0 + k) (counted d ws)
    ∙ sym (sum_by-cons (λ (w : WordValue). cond (same_decision w.decision d) 1 0) w ws)

pub length_named : (ws : List WordValue) → length (map named_of ws) ≡ length ws
length_named [] = refl
length_named (w ∷ ws) = ap suc (length_named ws)

-- ---- refusals that didn't come

pub or_parts_none : {A : Type 0} (a b : Option A) → or_else a b ≡ None → (a ≡ None) × (b ≡ None)
or_parts_none None b h = (refl, h)
or_parts_none (Some x) b h = absurd cc

pub leads : (me : ReplicaSelf) (t : TransactionValue) (view replica : ℕ) → not_leader me t view replica ≡ None →
    leader_of me.home.cluster t.time view ≡ replica
leads me t view replica h = by (leader_of me.home.cluster t.time view == replica) refl h
  where
    by : (b : Bool) → (leader_of me.home.cluster t.time view == replica) ≡ b → cond b None (Some NotLeader) ≡ None →
        leader_of me.home.cluster t.time view ≡ replica
    by true e h = eqb-true (leader_of me.home.cluster t.time view) replica e
    by false e h = absurd cc

adopts : (cell : LogCell) (view : ℕ) → adopt_fault (Some cell) view ≡ None → (cell.decided < view) × (cell.current ≤ view)
adopts cell view h = by (nat_lt view cell.current) (nat_le view cell.decided) refl refl h
  where
    by : (b d : Bool) → nat_lt view cell.current ≡ b → nat_le view cell.decided ≡ d →
        cond b (Some (Rattle.decision_log.specs.declared.cell.LogFault.TheVariants.StaleView cell.current))
        (cond d (Some (Rattle.decision_log.specs.declared.cell.LogFault.TheVariants.AlreadyDecidedIn cell.decided)) None) ≡ None →
        (cell.decided < view) × (cell.current ≤ view)
    by true d e f h = absurd cc
    by false true e f h = absurd cc
    by false false e f h = (leb-false view cell.decided f, ltb-false view cell.current e)

pub can_adopt : (l : Option LoggedEntry) (view : ℕ) → not_adopted l view ≡ None → acts.CanAdopt (cell_in l) view
can_adopt None view h = tt
can_adopt (Some l) view h = adopts l.cell view (mapped_none fault_of (adopt_fault (Some l.cell) view) h)

pub elects : (me : ReplicaSelf) (m : DecideValue) → bad_election me m ≡ None → (length m.words ≡ log_quorum me.home.cluster.f)
    × (majority me.home.cluster.f ≤ agreeing m)
elects me m h = by ((length m.words == 4 * me.home.cluster.f + 1) && nat_le (2 * me.home.cluster.f + 1) (agreeing m)) refl h
  where
    by : (b : Bool) → ((length m.words == 4 * me.home.cluster.f + 1) && nat_le (2 * me.home.cluster.f + 1) (agreeing m)) ≡ b →
        cond b None (Some (BadElection (length m.words) (agreeing m))) ≡ None → (length m.words ≡ log_quorum me.home.cluster.f)
        × (majority me.home.cluster.f ≤ agreeing m)
    by true e h =
        let both = and_parts (length m.words == 4 * me.home.cluster.f + 1) (nat_le (2 * me.home.cluster.f + 1) (agreeing m)) e in
        (eqb-true (length m.words) (4 * me.home.cluster.f + 1) both.0, leb-true (2 * me.home.cluster.f + 1) (agreeing m) both.1)
    by false e h = absurd cc

-- the text of an id that is looked up is this one
pub text_looked : (tx : Lookup) (es : List EntryValue) (t : TransactionValue) → Finds tx t → FindsEach tx es → known_of es t ≡ t
text_looked tx es t looked all =
    ap (λ (o : Option EntryValue). option_map_or (λ (e : EntryValue). e.transaction) o t) (entry_found (id t) es)
    ∙ by (Rattle.cluster_run.proofs.Finding.found (id t) es) refl
  where
    by : (o : Option EntryValue) → Rattle.cluster_run.proofs.Finding.found (id t) es ≡ o →
        option_map_or (λ (e : EntryValue). e.transaction) o t ≡ t
    by None h = refl
    by (Some e) h = sym (looked_found tx es (id t) e all h) ∙ looked

module _ (faulty : ℕ → ℕ → Bool) (tx : Lookup) (B : Accepted) (signed : can.Signed) (aborted : laws.Id → Bool) (me : ReplicaSelf)
    (own : List SignedWords) (book : BookValue)
    (backed : (s r : ℕ) (words : SignedWords) (signature : List ℕ) (word : laws.Word) → B (Replica s r) (words_of words) signature ≡ true →
    AreWords words → word_as words ≡ Some word → can.Says (setting me.home.cluster faulty tx) signed s r word)
    (election_of_list : ElectionOfList) where
  abbrev C : Rattle.agreement_laws.specs.Settings.Setting
  C = setting me.home.cluster faulty tx

  abbrev S : ℕ
  S = me.home.shard

  abbrev To : Done → Type 0
  To done = Leads C signed aborted S me.index (node own book) (node (own ++ done.signed) done.book)

  -- each word of a list was said
  pub words_said : (shard : ℕ) (t : TransactionValue) (view : ℕ) → view < 2 ^ 64 → (ws : List WordValue) →
      ((g : SignedBy) → Contains (map (word_signed shard (id t) view) ws) g → accepts B g ≡ true) →
      (n : Named) → Contains (map named_of ws) n → can.Says C signed shard n.replica (laws.Election shard n.replica (id t) n.decision view)
  words_said shard t view small [] f n i = absurd (omega (arith, i.1))
  words_said shard t view small (w ∷ ws) f n i = elim (in_cases n (named_of w) (map named_of ws) i) [
    | inl e ↦ subst (λ (n : Named). can.Says C signed shard n.replica (laws.Election shard n.replica (id t) n.decision view)) e
        (backed shard w.replica (ElectionWords (record {
          shard = shard;
          replica = w.replica;
          id = id t;
          decision = w.decision;
          view = view;
        })) w.signature (laws.Election shard w.replica (id t) (decision_as w.decision) view)
        (f (word_signed shard (id t) view w) (in_head (word_signed shard (id t) view w) (map (word_signed shard (id t) view) ws)))
        (record { id = length_id t; view = small }) refl)
    | inr j ↦ words_said shard t view small ws (λ g k. f g
        (in_rest (word_signed shard (id t) view w) g (map (word_signed shard (id t) view) ws) k)) n j
  ]

  -- the words of a decision elect it
  elected : (m : DecideValue) → FitsDecide (bounds_of me.home.cluster) m → Finds tx m.transaction → m.shard
      ≡ log_shard me.home.cluster m.transaction → bad_election me m ≡ None →
      ((g : SignedBy) → Contains (signed_in (Decide m)) g → accepts B g ≡ true) →
      can.Elected C signed (id m.transaction) (decision_as m.decision) m.view
  elected m fits looked home h f =
      let counts = elects me m h in
      let t = m.transaction in
      election_of_list C signed (id t) (decision_as m.decision) m.view (map named_of m.words)
      (rising (bounds_of me.home.cluster) 0 m.words fits.words.each)
      (length_named m.words ∙ counts.0)
      (subst (λ (k : ℕ). majority me.home.cluster.f ≤ k) (sym (counted m.decision m.words)) counts.1)
      (λ n i. subst (λ (s : ℕ). can.Says C signed s n.replica (laws.Election s n.replica (id t) n.decision m.view))
      (home ∙ ap (log_shard me.home.cluster) (sym looked))
      (words_said m.shard t m.view fits.view m.words (λ g k. f g
      (Contains-append_left (map (word_signed m.shard (id t) m.view) m.words) _ g k)) n i))

  proposed : (m : DecideValue) → FitsDecide (bounds_of me.home.cluster) m → Finds tx m.transaction → m.shard
      ≡ log_shard me.home.cluster m.transaction → leader_of me.home.cluster m.transaction.time m.view ≡ m.replica →
      ((g : SignedBy) → Contains (signed_in (Decide m)) g → accepts B g ≡ true) →
      can.Proposed C signed (id m.transaction) (decision_as m.decision) m.view
  proposed m fits looked home leader f =
      let t = m.transaction in
      let g = proposal_signed m.shard (id t) m.view (record { replica = m.replica; decision = m.decision; signature = m.signature }) in
      let said : can.Says C signed m.shard m.replica (laws.Proposal m.shard m.replica (id t) (decision_as m.decision) m.view) =
      backed m.shard m.replica (ProposalWords (record {
        shard = m.shard;
        replica = m.replica;
        id = id t;
        decision = m.decision;
        view =
            m.view;
      })) m.signature (laws.Proposal m.shard m.replica (id t) (decision_as m.decision) m.view)
      (f g (Contains-append_right (map (word_signed m.shard (id t) m.view) m.words) (g ∷ []) g (in_head g [])))
      (record { id = length_id t; view = fits.view }) refl in
      subst (λ (u : TransactionValue). can.Says C signed (log_shard me.home.cluster u) (leader_of me.home.cluster u.time m.view)
      (laws.Proposal (log_shard me.home.cluster u) (leader_of me.home.cluster u.time m.view) (id t) (decision_as m.decision) m.view))
      (sym looked)
      (subst (λ (s : ℕ). can.Says C signed s (leader_of me.home.cluster t.time m.view)
      (laws.Proposal s (leader_of me.home.cluster t.time m.view) (id t) (decision_as m.decision) m.view)) home
      (subst (λ (r : ℕ). can.Says C signed m.shard r (laws.Proposal m.shard r (id t) (decision_as m.decision) m.view)) (sym leader) said))

  adopt_goes : (t : TransactionValue) (m : DecideValue) (l : Option LoggedEntry) → logged_with book.logged (id t) ≡ l →
      acts.CanAdopt (cell_in l) m.view → can.Elected C signed (id t) (decision_as m.decision) m.view →
      can.Proposed C signed (id t) (decision_as m.decision) m.view →
      To (adopt_done me book t m l)
  adopt_goes t m l h may elected proposed =
      let cell = cell_of m.decision m.view in
      let given = signature me book.pen (log_words me (id t) cell) in
      one_act C signed aborted S me.index (node own book) (id t) (acts.Adopts (decision_as m.decision) m.view) _
      (subst (λ (o : Option acts.LogCell). acts.CanAdopt o m.view) (sym (ap cell_in h)) may, elected, proposed)
      (same_node _ _ _ _ (sym (words_append own (log_words me (id t) cell ∷ [])))
      (sym (slots_known_put t book.entries book.logged (record { id = id t; cell = cell; reply = Some given; askers = askers_with l }))))

  adopts_go : (m : DecideValue) (done : Done) → FitsDecide (bounds_of me.home.cluster) m → Finds tx m.transaction → m.shard
      ≡ log_shard me.home.cluster m.transaction →
      ((g : SignedBy) → Contains (signed_in (Decide m)) g → accepts B g ≡ true) →
      adopt_by me book m.transaction m (logged_with book.logged (id m.transaction)) ≡ Ok done → To done
  adopts_go m done fits looked home f h =
      let t = m.transaction in
      let l = logged_with book.logged (id t) in
      let refused =
      or_else (not_leader me t m.view m.replica) (or_else (not_adopted l m.view) (or_else (bad_election me m) (exhausted 1 book.pen)))
      in
      let a = or_parts_none (not_leader me t m.view m.replica)
      (or_else (not_adopted l m.view) (or_else (bad_election me m) (exhausted 1 book.pen)))
      (unless_none refused (adopt_done me book t m l) done h) in
      let b = or_parts_none (not_adopted l m.view) (or_else (bad_election me m) (exhausted 1 book.pen)) a.1 in
      let d = or_parts_none (bad_election me m) (exhausted 1 book.pen) b.1 in
      subst To (unless_ok refused (adopt_done me book t m l) done h)
      (adopt_goes t m l refl (can_adopt l m.view b.0) (elected m fits looked home d.0 f)
      (proposed m fits looked home (leads me t m.view m.replica a.0) f))

  pub decide_goes : (m : DecideValue) (done : Done) → FitsDecide (bounds_of me.home.cluster) m → Finds tx m.transaction →
      FindsEach tx book.entries → m.shard ≡ log_shard me.home.cluster m.transaction →
      ((g : SignedBy) → Contains (signed_in (Decide m)) g → accepts B g ≡ true) → answer_decide me book m ≡ Ok done → To done
  decide_goes m done fits looked all home f h =
      adopts_go m done fits looked home f (sym (ap (λ (t : TransactionValue). adopt_by me book t m
      (logged_with book.logged (id m.transaction))) (text_looked tx book.entries m.transaction looked all)) ∙ h)
