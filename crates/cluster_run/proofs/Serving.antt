-- What a state of a run is in the argument for reads, and what follows of it.
use Rattle.cluster_run.proofs.Members.{any_of, some_of}
use Rattle.std.proofs.Common.{◌≡◌, ℕ, zero, suc, ◌+◌, ◌==◌, Bool, true, false, cond, ◌&&◌, List, [], ◌∷◌, Option, Some, None, refl, sym, ap}
use Rattle.std.proofs.Common.{subst, ◌∙◌, inl, inr, arith}
use Rattle.std.specs.Prelude.{Contains, slice_get, find, filter, length, position, option_map, option_and_then}
use Rattle.std.specs.List.{list_any}
use Rattle.std.specs.Option.{option_map_or}
use Rattle.std.specs.Ordering.{nat_cmp, is_eq}
use Rattle.std.specs.Cmp.Lexicographic.{slice_cmp}
use Rattle.std.specs.Str.{bytes_eq}
use Rattle.std.proofs.lemmas.Bool.{cases_Bool, and_parts, and_from, or_cases, eqb-true, eq-eqb, or_left}
use Rattle.std.specs.Cmp.{Equal-is}
use Rattle.std.proofs.lemmas.Cmp.{nat_list_cmp_total, tied_itself}
use Rattle.std.proofs.lemmas.Map.Lookups.{exact_bytes}
use Rattle.basil_types.specs.declared.party.Party.TheVariants.{Replica, Client}
use Rattle.basil_types.specs.declared.party.Decision.TheVariants.{Commit}
use Rattle.basil_types.specs.declared.replayed.Latest.{Latest}
use Rattle.basil_types.specs.declared.transaction.parts.ReadPart.{ReadPart}
use Rattle.basil_types.specs.Replayed.{before}
use Rattle.basil_types.specs.Transaction.{TransactionValue, id, version_of}
use Rattle.basil_types.specs.Words.{TransactionWords, words_of}
use Rattle.client_core.specs.Clients.{ClientValue, SlotValue, AskedRead}
use Rattle.client_core.specs.Slots.{ReadStateValue, NotRead, Pending, Absent, Found, Deleted, Own, OwnDeleted, as_read, asked, value}
use Rattle.client_core.specs.Slots.{read_state, is_begun_at, slot_of_time}
use Rattle.frame_views.specs.Values.{CommittedValue}
use Rattle.premise_watch.specs.Breaches.{said, is_noted}
use Rattle.premise_watch.specs.Breaches as watch
use Rattle.txn_meta.specs.Places.{involves, shard_of}
use Rattle.txn_table.specs.Entries.{same_party}
use Rattle.agreement_laws.specs.Words as laws
use Rattle.agreement_laws.specs.Certificates as can
use Rattle.agreement_laws.specs.Invariants as agreement
use Rattle.agreement_laws.specs.Laws as agreed
use Rattle.agreement_laws.specs.Runs as runs
use Rattle.agreement_laws.specs.Settings as settings
use Rattle.serial_laws.specs.Bases.{Basis}
use Rattle.serial_laws.specs.Bases as bases
use Rattle.serial_laws.specs.Invariants.{IsHeedful}
use Rattle.serial_laws.specs.Invariants as serial_holds
use Rattle.serial_laws.specs.Committed.{AreShown}
use Rattle.serial_laws.specs.Laws.{AreSafe, FromInvariant}
use Rattle.basil_types.specs.Latest.{at}
use Rattle.serial_laws.specs.Reads.{IsTaken}
use Rattle.serial_laws.specs.Runs as serial_runs
use Rattle.basil_types.proofs.MemberLaws.{in_map, in_filter, filter_in, map_in}
use Rattle.cluster_run.specs.Headline.{proves, committed, latest_before, state_in, written, given, given_by, ReadsAreRight}
use Rattle.cluster_run.specs.Holding.{IsHeld}
use Rattle.cluster_run.specs.Parts.{client_self}
use Rattle.cluster_run.specs.Reading.{ReadsAreTaken}
use Rattle.cluster_run.specs.Settings.{Lookup}
use Rattle.cluster_run.specs.States.{Setup, IsSetup, is_faulty, State}
use Rattle.cluster_run.proofs.Agreeing.{look_up, fits, can_commit}
use Rattle.cluster_run.proofs.Finding.{same_true, same_self, true_false, position-cons}
use Rattle.cluster_run.proofs.Heeding.{outcome_ended, vote_asked}
use Rattle.cluster_run.proofs.Holding.{asked_in}
use Rattle.cluster_run.proofs.Parting.{Laws}
use Rattle.cluster_run.proofs.Running.{book_at, abs, set, FitsTexts, noted_signed}
use Rattle.cluster_run.proofs.Sanity.{sane}
use Rattle.cluster_run.proofs.Whole.{committed_in, IsAsked, IsEnded, IsTook, FormedAt, Whole}
use Rattle.cluster_run.proofs.Happening.{N as Nothing}

-- ---- what stands at a key

same_key : (key k : List ℕ) → bytes_eq k key ≡ is_eq (slice_cmp nat_cmp key k)
same_key key k = elim (cases_Bool (bytes_eq k key)) [
  | inl t ↦ t ∙ sym (ap (λ (z : List ℕ). is_eq (slice_cmp nat_cmp key z)) (same_true k key t)
      ∙ ap is_eq (tied_itself nat_list_cmp_total key))
  | inr n ↦ elim (cases_Bool (is_eq (slice_cmp nat_cmp key k))) [
    | inl t ↦ true_false (bytes_eq k key) (ap (λ (z : List ℕ). bytes_eq z key)
        (sym (exact_bytes key k ((Equal-is (slice_cmp nat_cmp key k)).0 t))) ∙ same_self key) n
    | inr m ↦ n ∙ sym m
  ]
]

-- ---- what was told, as what was left

abbrev latest_of_state : ReadStateValue → Option Latest
latest_of_state NotRead = None
latest_of_state Pending = None
latest_of_state Absent = None
latest_of_state (Found v bytes) = Some (record { version = v; value = Some bytes })
latest_of_state (Deleted v) = Some (record { version = v; value = None })
latest_of_state (Own bytes) = None
latest_of_state OwnDeleted = None

abbrev latest_in : Option ReadStateValue → Option Latest
latest_in None = None
latest_in (Some r) = latest_of_state r

latest_back : (o : Option Latest) → latest_in (Some (state_in o)) ≡ o
latest_back None = refl
latest_back (Some l) = by l.value refl
  where
    by : (v : Option (List ℕ)) → l.value ≡ v → latest_of_state (written l.version v) ≡ Some l
    by None e = ap (λ (v : Option (List ℕ)). Some (record { version = l.version; value = v })) (sym e)
    by (Some b) e = ap (λ (v : Option (List ℕ)). Some (record { version = l.version; value = v })) (sym e)

-- ---- the first place of what passes

record Placed {X : Type 0} (p : X → Bool) (xs : List X) : Type 0 where
  place : ℕ
  one : X
  found : position p xs ≡ Some place
  stands : slice_get xs place ≡ Some one
  passes : p one ≡ true

placed : {X : Type 0} (p : X → Bool) (xs : List X) (place : ℕ) (a : X) → slice_get xs place ≡ Some a → p a ≡ true → Placed p xs
placed p [] place a h t = absurd cc
placed {X} p (x ∷ xs) place a h t = by (p x) refl place h (λ q k. placed p xs q a k t)
  where
    by : (b : Bool) → p x ≡ b → (place : ℕ) → slice_get (x ∷ xs) place ≡ Some a → ((q : ℕ) → slice_get xs q ≡ Some a → Placed p xs) →
        Placed p (x ∷ xs)
    by true e place h rec = record {
      place = 0;
      one = x;
      found = position-cons p x xs
          ∙ ap (λ b. cond b (Some 0) (option_map (λ k. k + 1) (position p xs))) e;
      stands = refl;
      passes = e;
    }
    by false e zero h rec = (let is : x ≡ a = cc in true_false (p x) (ap p is ∙ t) e)
    by false e (suc q) h rec =
        let r = rec q h in
        let i : r.place + 1 ≡ suc r.place = omega arith in
        record {
          place = suc r.place;
          one = r.one;
          found = position-cons p x xs ∙ ap (λ b. cond b (Some 0) (option_map (λ k. k + 1) (position p xs))) e
              ∙ ap (option_map (λ k. k + 1)) r.found ∙ ap (λ (n : ℕ). Some n) i;
          stands = r.stands;
          passes = r.passes;
        }

-- ---- the setting

module _ (law : Laws) (reads : ReadsAreTaken) (voters : agreed.FromInvariant agreed.Voters) (safe : FromInvariant AreSafe) (s : Setup)
    (ok : IsSetup s) (st : State) (w : Whole s Nothing st)
    (agree : agreed.FromInvariant agreed.Agreement) where
  abbrev tx : Lookup
  tx = look_up st.watch.texts

  fit : FitsTexts tx st
  fit = fits law agree s ok st w.inv

  abbrev basis : Basis
  basis = record { numbers = s.cluster; faulty = λ a c. is_faulty s (Replica a c); faulty_client = λ n. is_faulty s (Client n); text = tx }

  same_setting : set s tx ≡ bases.setting_of basis
  same_setting = refl

  -- ---- the state

  abbrev formed_in : laws.Id → Bool
  formed_in x = (length x == 32) && said st.watch (Client (tx x).client) (words_of (TransactionWords x)) []

  abbrev state : serial_runs.State
  state = record { inner = abs st; committed = committed_in st; formed = formed_in; given = λ x key. latest_in (given s st (tx x) key) }

  -- ---- what a client was given

  -- the slot in which a correct client formed a transaction of these words
  record IsFormedIn (x : List ℕ) : Type 0 where
    at : FormedAt Nothing st (tx x).client x
    text : tx x ≡ at.formed.pursuit.transaction

  formed_slot : (x : List ℕ) → formed_in x ≡ true → is_faulty s (Client (tx x).client) ≡ false → IsFormedIn x
  formed_slot x h correct =
      let n = (tx x).client in
      let both = and_parts (length x == 32) (said st.watch (Client n) (words_of (TransactionWords x)) []) h in
      elim (or_cases (watch.is_faulty st.watch (Client n))
      (list_any (is_noted (Client n) (words_of (TransactionWords x))) st.watch.signed) both.1) [
        | inl i ↦ true_false (is_faulty s (Client n)) (ap (λ ps. list_any (same_party (Client n)) ps) (sym w.inv.faulty) ∙ i) correct
        | inr j ↦
            let k = w.formed n x (noted_signed law.words_tell s st w.inv.faulty w.inv.words (Client n) (TransactionWords x)
            (eqb-true (length x) 32 both.0) j) in
            let f = k.formed in
            record { at = k; text = ap tx (sym f.named) ∙ fit f.pursuit.transaction (elim k.seen [ inl e ↦ absurd e | inr i ↦ i ]) }
      ]

  -- what it was told of a read, and from where that may be
  record IsGiven (x : List ℕ) (r : ReadPart) : Type 0 where
    gave : Option Latest
    told : given s st (tx x) r.key ≡ Some (state_in gave)
    taken : IsTaken basis (committed_in st) r gave

  module _ (x : List ℕ) (f : IsFormedIn x) where
    abbrev N : ℕ
    N = (tx x).client

    abbrev C : ClientValue
    C = f.at.client

    abbrev Sl : SlotValue
    Sl = f.at.formed.slot

    is_held : IsHeld (client_self s N) (IsTook s st) C
    is_held = w.held N C f.at.at

    made : tx x ≡ Rattle.client_core.specs.Calls.formed (client_self s N) Sl
    made = f.text ∙ ((is_held.slots f.at.formed.place Sl f.at.formed.stands).forms f.at.formed.begun f.at.formed.pursuit
        f.at.formed.pursues).made

    -- its slot is the one of its time
    slot_found : option_and_then (slice_get C.slots) (slot_of_time C (tx x).time) ≡ Some Sl
    slot_found =
        let t : (tx x).time ≡ Sl.time = ap (λ (z : TransactionValue). z.time) made in
        let p = placed (is_begun_at (tx x).time) C.slots f.at.formed.place Sl f.at.formed.stands
        (and_from _ _ f.at.formed.begun (eq-eqb Sl.time (tx x).time (sym t))) in
        let both = and_parts p.one.begun (p.one.time == (tx x).time) p.passes in
        let same : p.place ≡ f.at.formed.place =
        is_held.apart p.place f.at.formed.place p.one Sl p.stands f.at.formed.stands both.0 f.at.formed.begun
        (eqb-true p.one.time (tx x).time both.1 ∙ t) in
        ap (option_and_then (slice_get C.slots)) p.found ∙ ap (slice_get C.slots) same ∙ f.at.formed.stands

    given_value : (key : List ℕ) → given s st (tx x) key ≡ Some (value s.cluster Sl key)
    given_value key =
        ap (option_and_then (given_by s (tx x) key)) f.at.at
        ∙ ap (option_map (λ (slot : SlotValue). value s.cluster slot key)) slot_found

    is_given : (r : ReadPart) → Contains (tx x).reads r → IsGiven x r
    is_given r i =
        let slot_ok = is_held.slots f.at.formed.place Sl f.at.formed.stands in
        let forms = slot_ok.forms f.at.formed.begun f.at.formed.pursuit f.at.formed.pursues in
        let j = in_map (as_read s.cluster) Sl.reads r (subst (λ (z : TransactionValue). Contains z.reads r) made i) in
        let a = j.0 in
        let key : a.key ≡ r.key = ap (λ (z : ReadPart). z.key) j.2 in
        let found : asked r.key Sl ≡ Some a = subst (λ (k : List ℕ). asked k Sl ≡ Some a) key (asked_in Sl.reads a slot_ok.ascend j.1) in
        let well = reads s.kit.accepts basis (committed_in st) Sl.time N a (forms.chosen a j.1)
        (λ m k. (let z = slot_ok.took a j.1 m k in (
          z.valid,
          record { texts = λ t c. fit t (z.texts t c); certified = λ part e. z.certified part e },
        )))
        (λ m t k c. w.inv.spelled t ((slot_ok.took a j.1 m k).texts t c)) in
        record {
          gave = well.gave;
          told =
              ◌∙◌ {c = Some (state_in well.gave)} (given_value r.key)
              (◌∙◌ {c = Some (state_in well.gave)} (ap (λ (o : Option AskedRead). Some
              (option_map_or (read_state s.cluster) o (Rattle.client_core.specs.Slots.own_state
              (find (λ w. bytes_eq w.key r.key) Sl.writes)))) found) (ap (λ (z : ReadStateValue). Some z) well.told));
          taken = subst (λ (z : ReadPart). IsTaken basis (committed_in st) z well.gave) j.2 well.taken;
        }

  given_back : (x : List ℕ) (r : ReadPart) (g : IsGiven x r) → state.given x r.key ≡ g.gave
  given_back x r g = ap latest_in g.told ∙ latest_back g.gave

  -- ---- the invariant

  agrees : agreement.Invariant (set s tx) (abs st)
  agrees = (w.inv.fine tx fit).invariant

  votes_heeded : (a c : ℕ) → is_faulty s (Replica a c) ≡ false → (x : List ℕ) →
      Contains (runs.signed_of (abs st) a c) (laws.Vote a c x laws.Commit) → IsAsked tx st.watch x
  votes_heeded a c correct x i =
      vote_asked (IsAsked tx st.watch) (IsEnded st) (book_at st a c).entries x laws.Commit (w.heeds tx fit a c correct)
      ((agrees.in_order a c correct).votes.said x laws.Commit i)

  asked_formed : (x : List ℕ) → IsAsked tx st.watch x → formed_in x ≡ true
  asked_formed x k = and_from _ _ (eq-eqb (length x) 32 k.sized) k.said

  heedful : (a c : ℕ) → is_faulty s (Replica a c) ≡ false → IsHeedful basis state a c ((abs st).nodes a c)
  heedful a c correct = record {
    signed = λ x i. asked_formed x (votes_heeded a c correct x i);
    form = λ x i. (votes_heeded a c correct x i).form;
    ended = λ x e. outcome_ended (IsAsked tx st.watch) (IsEnded st) (book_at st a c).entries x (w.heeds tx fit a c correct) e;
  }

  commits : (x : List ℕ) → committed_in st x ≡ true → can.CanCommit (set s tx) (runs.signed_of (abs st)) x
  commits x h =
      let p = some_of (λ (q : CommittedValue). bytes_eq x (id q.transaction) && proves Commit q) st.certified h in
      let both = and_parts (bytes_eq x (id p.one.transaction)) (proves Commit p.one) p.passes in
      subst (can.CanCommit (set s tx) (runs.signed_of (abs st))) (sym (same_true x (id p.one.transaction) both.0))
      (can_commit law agree s ok st w.inv p.one p.among both.1)

  holds : serial_holds.Invariant basis state
  holds = record {
    agrees = subst (λ (c : settings.Setting). agreement.Invariant c (abs st)) same_setting agrees;
    heedful = heedful;
    certified = λ x h. subst (λ (c : settings.Setting). can.CanCommit c (runs.signed_of (abs st)) x) same_setting (commits x h);
    taken = λ x h correct r i.
        let g = is_given x (formed_slot x h correct) r i in
        subst (IsTaken basis (committed_in st) r) (sym (given_back x r g)) g.taken;
  }

  -- ---- the committed

  committed_pair : (t : TransactionValue) → Contains (committed st) t → (p : CommittedValue) × Contains st.certified p
      × (proves Commit p ≡ true) × (p.transaction ≡ t)
  committed_pair t i =
      let m = in_map (λ (p : CommittedValue). p.transaction) (filter (proves Commit) st.certified) t i in
      let f = in_filter (proves Commit) st.certified m.0 m.1 in
      (m.0, f.0, f.1, m.2)

  is_text : (t : TransactionValue) → Contains (committed st) t → tx (id t) ≡ t
  is_text t i =
      let c = committed_pair t i in subst (λ (z : TransactionValue). tx (id z) ≡ z) c.3 (fit (c.0).transaction (w.inv.proofs c.0 c.1).seen)

  is_shown : (t : TransactionValue) → Contains (committed st) t → committed_in st (id t) ≡ true
  is_shown t i =
      let c = committed_pair t i in
      any_of (λ (q : CommittedValue). bytes_eq (id t) (id q.transaction) && proves Commit q) st.certified c.0 c.1
      (and_from _ _ (ap (λ (z : TransactionValue). bytes_eq (id t) (id z)) c.3 ∙ same_self (id t)) c.2)

  shown : AreShown basis state (committed st)
  shown = record {
    only = λ t i. record { text = is_text t i; shown = is_shown t i };
    every = λ t k.
        let p = some_of (λ (q : CommittedValue). bytes_eq (id t) (id q.transaction) && proves Commit q) st.certified k.shown in
        let both = and_parts (bytes_eq (id t) (id p.one.transaction)) (proves Commit p.one) p.passes in
        let same : p.one.transaction ≡ t =
        sym (fit p.one.transaction (w.inv.proofs p.one p.among).seen) ∙ ap tx (sym (same_true (id t) (id p.one.transaction) both.0))
        ∙ k.text in
        subst (Contains (committed st)) same (map_in (λ (p : CommittedValue). p.transaction) (filter (proves Commit) st.certified) p.one
        (filter_in (proves Commit) st.certified p.one p.among both.1));
  }

  pub reads_are_right : ReadsAreRight s st
  reads_are_right t i correct r j =
      let x = id t in
      let text = is_text t i in
      let a = shard_of s.cluster r.key in
      let voter =
      voters (set s tx) (sane law.sane s.cluster (λ a c. is_faulty s (Replica a c)) tx ok.few) (abs st) agrees x a
      (commits x (is_shown t i)) (ap (λ (z : TransactionValue). involves s.cluster z a) text
      ∙ or_left _ _ (any_of (λ (z : ReadPart). shard_of s.cluster z.key == a) t.reads r j (eq-eqb a a refl))) in
      let formed = asked_formed x (votes_heeded a voter.0 voter.2 x voter.3) in
      let slot = formed_slot x formed (ap (λ (z : TransactionValue). is_faulty s (Client z.client)) text ∙ correct) in
      let g = is_given x slot r (subst (λ (z : TransactionValue). Contains z.reads r) (sym text) j) in
      let from = (safe basis ok.few state holds (committed st) shown).reads t i correct r j in
      let map = before (committed st) (version_of t) in
      let latest : latest_before st t r.key ≡ at map r.key = refl in
      let gave : at map r.key ≡ g.gave = from.found ∙ given_back x r g in
      record {
        version = from.version;
        told = ap (λ (z : TransactionValue). given s st z r.key) (sym text) ∙ g.told
            ∙ ap (λ (o : Option Latest). Some (state_in o)) (sym (latest ∙ gave));
      }
