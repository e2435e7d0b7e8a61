-- The parts of events keep what holds besides the invariant.
use Rattle.std.proofs.Common.{◌≡◌, ℕ, Bool, true, false, cond, not, ◌||◌, List, [], ◌∷◌, ◌++◌, Option, Some, None, refl, ap, subst, ◌∙◌}
use Rattle.std.proofs.Common.{map}
use Rattle.std.specs.Prelude.{Result, Ok, Err, slice_set, ◌-◌}
use Rattle.basil_types.specs.declared.party.Party.{Party}
use Rattle.basil_types.specs.declared.party.Party.TheVariants.{Replica, Client}
use Rattle.client_core.specs.Clients.{ClientValue, ClientDone}
use Rattle.certificates.specs.declared.fault.FrameFault.{FrameFault}
use Rattle.frame_views.specs.declared.fault.BadFrame.{BadFrame}
use Rattle.frame_views.specs.declared.fault.BadFrame.TheVariants.{Kind}
use Rattle.frame_views.specs.Fitting.{FitsMessage, bounds_of}
use Rattle.frame_views.specs.Frames.{frame_in}
use Rattle.frame_views.specs.Values.{MessageValue}
use Rattle.premise_watch.specs.Breaches.{first_breach}
use Rattle.premise_watch.specs.Marks.{marks}
use Rattle.replica_core.specs.declared.refusal.Refusal.{Refusal}
use Rattle.replica_core.specs.Answers.{answer_message, answer_read_frame}
use Rattle.replica_core.specs.Replicas.{Done}
use Rattle.cluster_run.specs.declared.fault.WorldFault.{WorldFault}
use Rattle.cluster_run.specs.Answering.{AllWords}
use Rattle.cluster_run.specs.Parts.{are_bytes, read_frame, saw, see_message, see, Mail, posted, has_room, enter_all, enter}
use Rattle.cluster_run.specs.Parts.{mail_of, replica_self, client_self, send, refuse, replica_did, replica_handles, client_did}
use Rattle.cluster_run.specs.Parts.{client_handles, handle_by, handle, hand}
use Rattle.cluster_run.specs.States.{Setup, IsSetup, is_faulty, Standing, standing, client_at, State}
use Rattle.cluster_run.proofs.Finding.{ok_is}
use Rattle.cluster_run.proofs.Handling.{Saw, handled, went, book_here, book_there, found_at, at_parts}
use Rattle.cluster_run.proofs.Running.{elsewhere}
use Rattle.client_core.specs.Answers.{on_message, on_read_frame}
use Rattle.client_reads.specs.Laws.{RepliesExactly}
use Rattle.cluster_run.specs.Holding.{OfKind, Went}
use Rattle.cluster_run.proofs.ClientWords.{message_words}
use Rattle.cluster_run.proofs.Holding.{clients_go}
use Rattle.cluster_run.proofs.Parting.{between, Laws, client_signs, fits_by, broken_none, broken_ok}
use Rattle.cluster_run.proofs.Whole.{Whole, IsTook, around, whole_saw, whole_handled, whole_client, took_seen}
use Rattle.cluster_run.proofs.Seeing.{seen_keeps, saw_it}

module _ (law : Laws) (replies : RepliesExactly) (s : Setup) (ok : IsSetup s) (E : OfKind) where
  -- ---- seeing

  -- a state after a frame is seen; and the message, where there is one
  pub record Seen (st : State) (frame : Result MessageValue BadFrame) : Type 0 where
    pub whole : Whole s E st
    pub saw_of : (m : MessageValue) → frame ≡ Ok m → Saw s st m

  seen_by : (r : Result MessageValue BadFrame) → ((m : MessageValue) → r ≡ Ok m → FitsMessage (bounds_of s.cluster) m) → (st t : State) →
      Whole s E st → see_message s r st ≡ Ok t → Seen t r
  seen_by (Err e) f st t inv h = record {
    whole = subst (Whole s E)
        (ok_is st t (see_message s (Err e) st) refl h) inv;
    saw_of = λ m q. absurd cc;
  }
  seen_by (Ok m) f st t inv h =
      let b = first_breach s.kit.accepts st.watch (marks m) in
      let none = broken_none b (saw s m st) t h in
      let is = broken_ok b (saw s m st) t h in
      record {
        whole = subst (Whole s E) is (whole_saw s E st m inv
            (seen_keeps law.words_tell law.sane law.one_spelling law.exactly law.carry law.certificates law.after_event s ok st inv.inv
            m (f m refl) none));
        saw_of = λ n q.
            let same : m ≡ n = ok_is m n (Ok m) refl q in
            subst (Saw s t) same (subst (λ (x : State). Saw s x m) is
            (saw_it law.words_tell law.sane law.one_spelling law.exactly law.carry law.certificates law.after_event s ok st inv.inv
            m (f m refl) none));
      }

  pub see_keeps : (frame : List ℕ) (st t : State) → Whole s E st → see s frame st ≡ Ok t → Seen t (read_frame s frame)
  see_keeps frame st t inv h = seen_by (read_frame s frame) (λ m q. fits_by law.frames_fit s ok frame (are_bytes frame) refl m q) st t inv h

  -- ---- the pool

  pub enter_all_keeps : (mail : List Mail) (st t : State) → Whole s E st → enter_all s mail st ≡ Ok t → Whole s E t
  enter_all_keeps [] st t inv h = subst (Whole s E) (ok_is st t (enter_all s [] st) refl h) inv
  enter_all_keeps (m ∷ mail) st t inv h =
      let start : State = record st { pool = st.pool ++ posted m ∷ [] } in
      let b = between (see s m.frame start) (enter_all s mail) t h in
      enter_all_keeps mail b.start t (see_keeps m.frame start b.start
      (around s E st st.lied st.begun (st.pool ++ posted m ∷ []) st.refused inv) b.first).whole b.second

  pub enter_keeps : (mail : List Mail) (st t : State) → Whole s E st → enter s mail st ≡ Ok t → Whole s E t
  enter_keeps mail st t inv h = by (has_room s st mail) h
    where
      by : (b : Bool) → cond b (enter_all s mail st) (Err
          (Rattle.cluster_run.specs.declared.fault.WorldFault.TheVariants.PoolFull (Rattle.std.specs.Prelude.length st.pool)
          (Rattle.cluster_run.specs.Parts.pool_bytes st.pool))) ≡ Ok t → Whole s E t
      by true h = enter_all_keeps mail st t inv h
      by false h = absurd cc

  refuse_keeps : (number : ℕ) (st t : State) → Whole s E st → refuse number st ≡ Ok t → Whole s E t
  refuse_keeps number st t inv h =
      subst (Whole s E) (ok_is (record st { refused = Some number }) t (refuse number st) refl h)
      (around s E st st.lied st.begun st.pool (Some number) inv)

  pub stay_keeps : (st t : State) → Whole s E st → (the : Result State WorldFault) → the ≡ Ok st → the ≡ Ok t → Whole s E t
  stay_keeps st t inv the e h = subst (Whole s E) (ok_is st t the e h) inv

  -- ---- nodes

  did_keeps : (number : ℕ) (from : Party) (x : Standing) (m : MessageValue) (r : Result Done Refusal) (st t : State) → Whole s E st →
      Saw s st m → standing st x.shard x.index ≡ Some x → is_faulty s (Replica x.shard x.index) ≡ false →
      answer_message (replica_self s x.shard x.index) x.moment from x.book m ≡ r → replica_did s number x r st ≡ Ok t → Whole s E t
  did_keeps number from x m (Ok d) st t inv sw here correct e h =
      enter_keeps (map (mail_of (Replica x.shard x.index)) d.sent) _ t
      (whole_handled s ok E st inv m sw from x here correct d e
      (handled law.words_tell law.sane law.carry law.are_acts law.keep_order law.sign_words law.after_answer s ok st inv.inv m sw
      from x here correct d e)
      (went law.words_tell law.sane law.carry law.are_acts law.keep_order law.sign_words law.after_answer s ok st inv.inv m sw
      from x here correct d e)
      (book_here law.words_tell law.sane law.carry law.are_acts law.keep_order law.sign_words law.after_answer s ok st inv.inv m sw
      from x here correct d e)
      (book_there law.words_tell law.sane law.carry law.are_acts law.keep_order law.sign_words law.after_answer s ok st inv.inv m sw
      from x here correct d e)) h
  did_keeps number from x m (Err f) st t inv sw here correct e h = refuse_keeps number st t inv h

  replica_keeps : (number : ℕ) (from : Party) (x : Standing) (frame : Result MessageValue BadFrame) (st t : State) → Seen st frame →
      standing st x.shard x.index ≡ Some x → is_faulty s (Replica x.shard x.index) ≡ false →
      replica_did s number x (answer_read_frame (replica_self s x.shard x.index) x.moment from x.book frame) st ≡ Ok t → Whole s E t
  replica_keeps number from x (Err e) st t sn here correct h = refuse_keeps number st t sn.whole h
  replica_keeps number from x (Ok m) st t sn here correct h =
      did_keeps number from x m (answer_message (replica_self s x.shard x.index) x.moment from x.book m) st t sn.whole
      (sn.saw_of m refl) here correct refl h

  standing_keeps : (number : ℕ) (from : Party) (shard index : ℕ) (frame : List ℕ) (o : Option Standing) (st t : State) →
      Seen st (frame_in (bounds_of s.cluster) frame) → is_faulty s (Replica shard index) ≡ false → standing st shard index ≡ o →
      replica_handles s number from frame o st ≡ Ok t → Whole s E t
  standing_keeps number from shard index frame None st t sn correct e h =
      stay_keeps st t sn.whole (replica_handles s number from frame None st) refl h
  standing_keeps number from shard index frame (Some x) st t sn correct e h =
      let place = at_parts shard index x (found_at shard index st.replicas x e) in
      replica_keeps number from x (frame_in (bounds_of s.cluster) frame) st t sn
      (ap (λ (n : ℕ). standing st n x.index) place.0 ∙ ap (λ (n : ℕ). standing st shard n) place.1 ∙ e)
      (ap (λ (n : ℕ). is_faulty s (Replica n x.index)) place.0 ∙ ap (λ (n : ℕ). is_faulty s (Replica shard n)) place.1 ∙ correct) h

  -- a client that did something
  pub client_did_keeps : (client : ℕ) (c : ClientValue) (d : ClientDone) (st t : State) → Whole s E st → client_at st client ≡ Some c →
      AllWords d.signed → Went (client_self s client) (IsTook s st) E c d →
      send s (Client client) d.signed d.sent (record st { clients = slice_set st.clients (client - 1) d.client }) ≡ Ok t → Whole s E t
  client_did_keeps client c d st t inv at sized went h =
      let cs = slice_set st.clients (client - 1) d.client in
      enter_keeps (map (mail_of (Client client)) d.sent) _ t
      (whole_client s E st inv client c at d went (client_signs law.carry s (record st { clients = cs }) client d.signed sized
      (elsewhere s st cs st.lied st.begun st.pool st.refused inv.inv))) h

  client_by : (number client : ℕ) (c : ClientValue) (m : MessageValue) (r : Result ClientDone FrameFault) (st t : State) → Whole s E st →
      Saw s st m → client_at st client ≡ Some c → on_message (client_self s client) c m ≡ r → client_did s number client r st ≡ Ok t →
      Whole s E t
  client_by number client c m (Ok d) st t inv sw at e h =
      client_did_keeps client c d st t inv at (message_words (client_self s client) c m d e)
      ((clients_go (client_self s client) (IsTook s st) E).at_message c m d (inv.held client c at)
      (λ r i read none. took_seen s ok replies law.exactly st m sw r i read none) e) h
  client_by number client c m (Err f) st t inv sw at e h = refuse_keeps number st t inv h

  client_read : (number client : ℕ) (c : ClientValue) (r : Result MessageValue BadFrame) (st t : State) → Seen st r → client_at st client
      ≡ Some c → client_did s number client (on_read_frame (client_self s client) c r) st ≡ Ok t → Whole s E t
  client_read number client c (Ok m) st t sn at h =
      client_by number client c m (on_message (client_self s client) c m) st t sn.whole (sn.saw_of m refl) at refl h
  client_read number client c (Err f) st t sn at h = refuse_keeps number st t sn.whole h

  client_keeps : (number client : ℕ) (frame : List ℕ) (o : Option ClientValue) (st t : State) →
      Seen st (frame_in (bounds_of s.cluster) frame) → client_at st client ≡ o → client_handles s number client frame o st ≡ Ok t →
      Whole s E t
  client_keeps number client frame None st t sn at h = stay_keeps st t sn.whole (client_handles s number client frame None st) refl h
  client_keeps number client frame (Some c) st t sn at h = client_read number client c (frame_in (bounds_of s.cluster) frame) st t sn at h

  handle_keeps : (number : ℕ) (from to : Party) (frame : List ℕ) (st t : State) → Seen st (frame_in (bounds_of s.cluster) frame) →
      is_faulty s to ≡ false → handle_by s number from to frame st ≡ Ok t → Whole s E t
  handle_keeps number from (Replica shard index) frame st t sn correct h =
      standing_keeps number from shard index frame (standing st shard index) st t sn correct refl h
  handle_keeps number from (Client client) frame st t sn correct h = client_keeps number client frame (client_at st client) st t sn refl h

  handle_or : (number : ℕ) (from to : Party) (frame : List ℕ) (st t : State) (b c : Bool) → is_faulty s to ≡ b → are_bytes frame ≡ c →
      Seen st (read_frame s frame) → cond (b || not c) (Ok st) (handle_by s number from to frame st) ≡ Ok t → Whole s E t
  handle_or number from to frame st t true c e f sn h =
      subst (Whole s E) (ok_is st t (cond true (Ok st) (handle_by s number from to frame st)) refl h) sn.whole
  handle_or number from to frame st t false true e f sn h =
      handle_keeps number from to frame st t (subst (Seen st) (ap (λ b. cond b (frame_in (bounds_of s.cluster) frame) (Err Kind)) f) sn) e h
  handle_or number from to frame st t false false e f sn h =
      subst (Whole s E) (ok_is st t (cond true (Ok st) (handle_by s number from to frame st)) refl h) sn.whole

  pub hand_keeps : (number : ℕ) (from to : Party) (frame : List ℕ) (st t : State) → Whole s E st → hand s number from to frame st ≡ Ok t →
      Whole s E t
  hand_keeps number from to frame st t inv h =
      let b = between (see s frame st) (handle s number from to frame) t h in
      handle_or number from to frame b.start t (is_faulty s to) (are_bytes frame) refl refl
      (see_keeps frame st b.start inv b.first) b.second
