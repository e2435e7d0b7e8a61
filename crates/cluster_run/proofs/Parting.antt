-- The parts of events keep the invariant.
use Rattle.serial_laws.specs.Laws.{SettingsAreSane}
use Rattle.std.proofs.Common.{◌≡◌, ℕ, zero, suc, ◌<◌, Bool, true, false, cond, not, ◌||◌, arith, List, [], ◌∷◌, ◌++◌, Option, Some, None}
use Rattle.std.proofs.Common.{refl, sym, ap, subst, ◌∙◌, inl, inr, map}
use Rattle.std.specs.Prelude.{Result, Ok, Err, nat_lt, slice_index}
use Rattle.std.proofs.lemmas.Bool.{and_parts, ltb-true}
use Rattle.std.proofs.lemmas.List.Elements.{Contains-append_cases}
use Rattle.basil_types.specs.Steps.{◌>>=◌}
use Rattle.basil_types.specs.declared.party.Party.{Party}
use Rattle.basil_types.specs.declared.party.Party.TheVariants.{Replica, Client}
use Rattle.basil_types.specs.Words.{SignedWords, WordsTellFields}
use Rattle.certificates.specs.Laws.{CertificatesExactly, CertificatesCarry}
use Rattle.client_core.specs.Answers.{on_frame}
use Rattle.client_core.specs.Clients.{ClientValue, ClientDone}
use Rattle.certificates.specs.declared.fault.FrameFault.{FrameFault}
use Rattle.basil_types.specs.Texts.{IsBytes}
use Rattle.frame_views.specs.declared.fault.BadFrame.{BadFrame}
use Rattle.frame_views.specs.declared.fault.BadFrame.TheVariants.{Kind}
use Rattle.frame_views.specs.Fitting.{FitsMessage, bounds_of}
use Rattle.frame_views.specs.Frames.{frame_in}
use Rattle.frame_views.specs.Values.{MessageValue}
use Rattle.premise_watch.specs.declared.broken.Broken.{Broken}
use Rattle.premise_watch.specs.Breaches.{first_breach}
use Rattle.premise_watch.specs.Marks.{marks}
use Rattle.replica_core.specs.declared.refusal.Refusal.{Refusal}
use Rattle.replica_core.specs.Answers.{answer_message, answer_read_frame}
use Rattle.replica_core.specs.Replicas.{Done}
use Rattle.agreement_laws.specs.Words as laws
use Rattle.agreement_laws.specs.Certificates as can
use Rattle.agreement_laws.specs.Invariants.{Invariant}
use Rattle.agreement_laws.specs.Laws.{HoldsAfterEvent, HoldsAfterAnswer}
use Rattle.agreement_laws.specs.Runs as runs
use Rattle.cluster_run.specs.declared.fault.WorldFault.{WorldFault}
use Rattle.cluster_run.specs.Acting.{node}
use Rattle.cluster_run.specs.Answering.{AllWords, AnswersAreActs, AnswersKeepOrder, AnswersSignWords}
use Rattle.law_joins.specs.Shown.{CertificatesAreCertificates}
use Rattle.cluster_run.specs.Layers.{FramesFit, ClientsSignWords}
use Rattle.cluster_run.specs.Parts.{are_bytes, read_frame, saw, unless_broken, see_message, see, Mail, posted, has_room, enter_all, enter}
use Rattle.cluster_run.specs.Parts.{mail_of, replica_self, client_self, noted, send, refuse, replica_did, replica_handles, client_did}
use Rattle.cluster_run.specs.Parts.{client_handles, handle_by, handle, hand}
use Rattle.cluster_run.specs.States.{Setup, IsSetup, is_faulty, Standing, standing, client_at, State}
use Rattle.cluster_run.proofs.Finding.{ok_is}
use Rattle.cluster_run.proofs.Handling.{Saw, handled, found_at, at_parts, signed_other, all_noted, proof_grows}
use Rattle.cluster_run.proofs.Running.{elsewhere, signed_by, book_at, aborted_in, abs, set, Inv}
use Rattle.cluster_run.proofs.Seeing.{OneSpelling, seen_keeps, saw_it}

-- ---- results

-- what the second part starts from
pub record Between {A B E : Type 0} (a : Result A E) (f : A → Result B E) (b : B) : Type 0 where
  pub start : A
  pub first : a ≡ Ok start
  pub second : f start ≡ Ok b

pub between : {A B E : Type 0} (a : Result A E) (f : A → Result B E) (b : B) → (a >>= f) ≡ Ok b → Between a f b
between (Ok x) f b h = record { start = x; first = refl; second = h }
between (Err e) f b h = absurd cc

-- ---- bytes

bytes_at : (frame : List ℕ) → are_bytes frame ≡ true → (i : ℕ) → slice_index frame i < 256
bytes_at [] h i = arith_none i
  where
    arith_none : (i : ℕ) → slice_index [] i < 256
    arith_none i = omega arith
bytes_at (b ∷ bs) h zero = ltb-true b 256 (and_parts (nat_lt b 256) (are_bytes bs) h).0
bytes_at (b ∷ bs) h (suc i) = bytes_at bs (and_parts (nat_lt b 256) (are_bytes bs) h).1 i

pub bytes_are : (frame : List ℕ) → are_bytes frame ≡ true → IsBytes frame
bytes_are frame h i = bytes_at frame h i

pub fits_by : FramesFit → (s : Setup) → IsSetup s → (frame : List ℕ) (b : Bool) → are_bytes frame ≡ b → (m : MessageValue) →
    cond b (frame_in (bounds_of s.cluster) frame) (Err Kind) ≡ Ok m → FitsMessage (bounds_of s.cluster) m
fits_by frames_fit s ok frame true e m h = frames_fit s.cluster frame m ok.setting (bytes_are frame e) h
fits_by frames_fit s ok frame false e m h = absurd cc

-- ---- breaches

pub broken_none : (b : Option Broken) (st t : State) → unless_broken b st ≡ Ok t → b ≡ None
broken_none None st t h = refl
broken_none (Some x) st t h = absurd cc

pub broken_ok : (b : Option Broken) (st t : State) → unless_broken b st ≡ Ok t → st ≡ t
broken_ok None st t h = ok_is st t (unless_broken None st) refl h
broken_ok (Some x) st t h = absurd cc

-- ---- what a client signs

module _ (carry : CertificatesCarry) (s : Setup) (st : State) (number : ℕ) (ws : List SignedWords)
    (sized : AllWords ws) (inv : Inv s st) where
  abbrev Cs : State
  Cs = record st { watch = noted (Client number) ws st.watch }

  same_own : (a c : ℕ) → signed_by Cs.watch.signed (Replica a c) ≡ signed_by st.watch.signed (Replica a c)
  same_own a c = signed_other st.watch (Client number) (Replica a c) ws refl

  same_abs : abs st ≡ abs Cs
  same_abs = λ i. record { nodes = λ a c. node (sym (same_own a c) i) (book_at st a c); aborted = aborted_in st }

  pub client_signs : Inv s Cs
  client_signs = record {
    faulty = inv.faulty;
    words = λ n i. elim (Contains-append_cases st.watch.signed (map (λ x. record { party = Client number; words = x }) ws) n i)
        [ inl j ↦ inv.words n j | inr k ↦ all_noted (Client number) ws n sized k ];
    spelled = inv.spelled;
    unique = inv.unique;
    proofs = λ p i. proof_grows carry s st.watch (Client number) ws p (inv.proofs p i);
    sized = inv.sized;
    fine = λ tx f.
        let g = inv.fine tx f in
        record {
          invariant = subst (Invariant (set s tx)) same_abs g.invariant;
          order = λ a c n. let o = g.order a c n in record {
            looked = o.looked;
            distinct = o.distinct;
            apart = o.apart;
            kept = λ k i. let q = o.kept k i in record {
              below = q.below;
              said = subst (λ (x : runs.State). can.Says (set s tx) (runs.signed_of x) a k.word.replica
                  (laws.Election a k.word.replica k.id (Rattle.law_joins.specs.Shown.decision_of k.word.decision) k.view)) same_abs q.said;
            };
          };
        };
  }

-- the laws that are used
pub record Laws : Type 0 where
  pub sane : SettingsAreSane
  pub words_tell : WordsTellFields
  pub one_spelling : OneSpelling
  pub exactly : CertificatesExactly
  pub carry : CertificatesCarry
  pub certificates : CertificatesAreCertificates
  pub after_event : HoldsAfterEvent
  pub after_answer : HoldsAfterAnswer
  pub are_acts : AnswersAreActs
  pub keep_order : AnswersKeepOrder
  pub sign_words : AnswersSignWords
  pub frames_fit : FramesFit
  pub clients_sign : ClientsSignWords

module _ (law : Laws) (s : Setup) (ok : IsSetup s) where
  -- ---- seeing

  -- a state after a frame is seen; and the message, where there is one
  pub record Seen (st : State) (frame : Result MessageValue BadFrame) : Type 0 where
    pub inv : Inv s st
    pub saw_of : (m : MessageValue) → frame ≡ Ok m → Saw s st m

  seen_by : (r : Result MessageValue BadFrame) → ((m : MessageValue) → r ≡ Ok m → FitsMessage (bounds_of s.cluster) m) → (st t : State) →
      Inv s st → see_message s r st ≡ Ok t → Seen t r
  seen_by (Err e) f st t inv h = record {
    inv = subst (Inv s)
        (ok_is st t (see_message s (Err e) st) refl h) inv;
    saw_of = λ m q. absurd cc;
  }
  seen_by (Ok m) f st t inv h =
      let b = first_breach s.kit.accepts st.watch (marks m) in
      let none = broken_none b (saw s m st) t h in
      let is = broken_ok b (saw s m st) t h in
      record {
        inv = subst (Inv s) is (seen_keeps law.words_tell law.sane law.one_spelling law.exactly law.carry law.certificates
            law.after_event s ok st inv m (f m refl) none);
        saw_of = λ n q.
            let same : m ≡ n = ok_is m n (Ok m) refl q in
            subst (Saw s t) same (subst (λ (x : State). Saw s x m) is
            (saw_it law.words_tell law.sane law.one_spelling law.exactly law.carry law.certificates law.after_event s ok st inv m
            (f m refl) none));
      }

  pub see_keeps : (frame : List ℕ) (st t : State) → Inv s st → see s frame st ≡ Ok t → Seen t (read_frame s frame)
  see_keeps frame st t inv h = seen_by (read_frame s frame) (λ m q. fits_by law.frames_fit s ok frame (are_bytes frame) refl m q) st t inv h

  -- ---- the pool

  pub enter_all_keeps : (mail : List Mail) (st t : State) → Inv s st → enter_all s mail st ≡ Ok t → Inv s t
  enter_all_keeps [] st t inv h = subst (Inv s) (ok_is st t (enter_all s [] st) refl h) inv
  enter_all_keeps (m ∷ mail) st t inv h =
      let start : State = record st { pool = st.pool ++ posted m ∷ [] } in
      let b = between (see s m.frame start) (enter_all s mail) t h in
      enter_all_keeps mail b.start t (see_keeps m.frame start b.start
      (elsewhere s st st.clients st.lied st.begun (st.pool ++ posted m ∷ []) st.refused inv) b.first).inv b.second

  pub enter_keeps : (mail : List Mail) (st t : State) → Inv s st → enter s mail st ≡ Ok t → Inv s t
  enter_keeps mail st t inv h = by (has_room s st mail) h
    where
      by : (b : Bool) → cond b (enter_all s mail st) (Err
          (Rattle.cluster_run.specs.declared.fault.WorldFault.TheVariants.PoolFull (Rattle.std.specs.Prelude.length st.pool)
          (Rattle.cluster_run.specs.Parts.pool_bytes st.pool))) ≡ Ok t → Inv s t
      by true h = enter_all_keeps mail st t inv h
      by false h = absurd cc

  refuse_keeps : (number : ℕ) (st t : State) → Inv s st → refuse number st ≡ Ok t → Inv s t
  refuse_keeps number st t inv h =
      subst (Inv s) (ok_is (record st { refused = Some number }) t (refuse number st) refl h)
      (elsewhere s st st.clients st.lied st.begun st.pool (Some number) inv)

  pub stay_keeps : (st t : State) → Inv s st → (the : Result State WorldFault) → the ≡ Ok st → the ≡ Ok t → Inv s t
  stay_keeps st t inv the e h = subst (Inv s) (ok_is st t the e h) inv

  -- ---- nodes

  did_keeps : (number : ℕ) (from : Party) (x : Standing) (m : MessageValue) (r : Result Done Refusal) (st t : State) → Inv s st →
      Saw s st m → standing st x.shard x.index ≡ Some x → is_faulty s (Replica x.shard x.index) ≡ false →
      answer_message (replica_self s x.shard x.index) x.moment from x.book m ≡ r → replica_did s number x r st ≡ Ok t → Inv s t
  did_keeps number from x m (Ok d) st t inv sw here correct e h =
      enter_keeps (map (mail_of (Replica x.shard x.index)) d.sent) _ t
      (handled law.words_tell law.sane law.carry law.are_acts law.keep_order law.sign_words law.after_answer s ok st inv m sw
      from x here correct d e)
      h
  did_keeps number from x m (Err f) st t inv sw here correct e h = refuse_keeps number st t inv h

  replica_keeps : (number : ℕ) (from : Party) (x : Standing) (frame : Result MessageValue BadFrame) (st t : State) → Seen st frame →
      standing st x.shard x.index ≡ Some x → is_faulty s (Replica x.shard x.index) ≡ false →
      replica_did s number x (answer_read_frame (replica_self s x.shard x.index) x.moment from x.book frame) st ≡ Ok t → Inv s t
  replica_keeps number from x (Err e) st t sn here correct h = refuse_keeps number st t sn.inv h
  replica_keeps number from x (Ok m) st t sn here correct h =
      did_keeps number from x m (answer_message (replica_self s x.shard x.index) x.moment from x.book m) st t sn.inv
      (sn.saw_of m refl) here correct refl h

  standing_keeps : (number : ℕ) (from : Party) (shard index : ℕ) (frame : List ℕ) (o : Option Standing) (st t : State) →
      Seen st (frame_in (bounds_of s.cluster) frame) → is_faulty s (Replica shard index) ≡ false → standing st shard index ≡ o →
      replica_handles s number from frame o st ≡ Ok t → Inv s t
  standing_keeps number from shard index frame None st t sn correct e h =
      stay_keeps st t sn.inv (replica_handles s number from frame None st) refl h
  standing_keeps number from shard index frame (Some x) st t sn correct e h =
      let place = at_parts shard index x (found_at shard index st.replicas x e) in
      replica_keeps number from x (frame_in (bounds_of s.cluster) frame) st t sn
      (ap (λ (n : ℕ). standing st n x.index) place.0 ∙ ap (λ (n : ℕ). standing st shard n) place.1 ∙ e)
      (ap (λ (n : ℕ). is_faulty s (Replica n x.index)) place.0 ∙ ap (λ (n : ℕ). is_faulty s (Replica shard n)) place.1 ∙ correct) h

  -- a client that did something
  pub client_did_keeps : (number : ℕ) (client : ℕ) (d : ClientDone) (cs : List ClientValue) (st t : State) → Inv s st → AllWords d.signed →
      send s (Client client) d.signed d.sent (record st { clients = cs }) ≡ Ok t → Inv s t
  client_did_keeps number client d cs st t inv sized h =
      enter_keeps (map (mail_of (Client client)) d.sent) _ t
      (client_signs law.carry s (record st { clients = cs }) client d.signed sized
      (elsewhere s st cs st.lied st.begun st.pool st.refused inv)) h

  client_by : (number client : ℕ) (frame : List ℕ) (c : ClientValue) (r : Result ClientDone FrameFault) (st t : State) → Inv s st →
      on_frame (client_self s client) c frame ≡ r → client_did s number client r st ≡ Ok t → Inv s t
  client_by number client frame c (Ok d) st t inv e h =
      client_did_keeps number client d _ st t inv (law.clients_sign.at_frame (client_self s client) c frame d e) h
  client_by number client frame c (Err f) st t inv e h = refuse_keeps number st t inv h

  client_keeps : (number client : ℕ) (frame : List ℕ) (o : Option ClientValue) (st t : State) → Inv s st →
      client_handles s number client frame o st ≡ Ok t → Inv s t
  client_keeps number client frame None st t inv h = stay_keeps st t inv (client_handles s number client frame None st) refl h
  client_keeps number client frame (Some c) st t inv h =
      client_by number client frame c (on_frame (client_self s client) c frame) st t inv refl h

  handle_keeps : (number : ℕ) (from to : Party) (frame : List ℕ) (st t : State) → Seen st (frame_in (bounds_of s.cluster) frame) →
      is_faulty s to ≡ false → handle_by s number from to frame st ≡ Ok t → Inv s t
  handle_keeps number from (Replica shard index) frame st t sn correct h =
      standing_keeps number from shard index frame (standing st shard index) st t sn correct refl h
  handle_keeps number from (Client client) frame st t sn correct h = client_keeps number client frame (client_at st client) st t sn.inv h

  handle_or : (number : ℕ) (from to : Party) (frame : List ℕ) (st t : State) (b c : Bool) → is_faulty s to ≡ b → are_bytes frame ≡ c →
      Seen st (read_frame s frame) → cond (b || not c) (Ok st) (handle_by s number from to frame st) ≡ Ok t → Inv s t
  handle_or number from to frame st t true c e f sn h =
      subst (Inv s) (ok_is st t (cond true (Ok st) (handle_by s number from to frame st)) refl h) sn.inv
  handle_or number from to frame st t false true e f sn h =
      handle_keeps number from to frame st t (subst (Seen st) (ap (λ b. cond b (frame_in (bounds_of s.cluster) frame) (Err Kind)) f) sn) e h
  handle_or number from to frame st t false false e f sn h =
      subst (Inv s) (ok_is st t (cond true (Ok st) (handle_by s number from to frame st)) refl h) sn.inv

  pub hand_keeps : (number : ℕ) (from to : Party) (frame : List ℕ) (st t : State) → Inv s st → hand s number from to frame st ≡ Ok t →
      Inv s t
  hand_keeps number from to frame st t inv h =
      let b = between (see s frame st) (handle s number from to frame) t h in
      handle_or number from to frame b.start t (is_faulty s to) (are_bytes frame) refl refl
      (see_keeps frame st b.start inv b.first) b.second
