-- What stays true of the certified pairs along a run: they change only as messages are seen.
use Rattle.node_steps.specs.Refusing.{unless_refused}
use Rattle.std.proofs.Common.{◌≡◌, ℕ, Bool, true, false, cond, not, ◌||◌, List, [], ◌∷◌, ◌++◌, Option, Some, None, refl}
use Rattle.std.proofs.Common.{ap, subst, inl, inr, arith}
use Rattle.std.specs.Prelude.{Contains, Result, Ok, Err, filter, is_none, is_some, slice_get, option_and_then, ◌-◌}
use Rattle.std.specs.Option.{option_map_or}
use Rattle.std.proofs.lemmas.Bool.{and_parts, and_from}
use Rattle.std.proofs.lemmas.List.Elements.{Contains-append_left, Contains-append_right, Contains-append_cases}
use Rattle.basil_types.specs.Steps.{◌>>=◌}
use Rattle.basil_types.specs.declared.party.Party.{Party}
use Rattle.basil_types.specs.declared.party.Party.TheVariants.{Replica, Client}
use Rattle.basil_types.specs.declared.version.Version.{Version}
use Rattle.basil_types.specs.Version.{genesis}
use Rattle.basil_types.specs.Words.{SignedWords}
use Rattle.basil_types.proofs.MemberLaws.{filter_in, in_filter}
use Rattle.certificates.specs.Laws.{CertificatesExactly}
use Rattle.certificates.specs.declared.fault.FrameFault.{FrameFault}
use Rattle.certificates.specs.Deciding.{HasGoodForm, Proves}
use Rattle.certificates.specs.Refusals.{decision_of, refusal}
use Rattle.basil_types.specs.declared.party.Decision.{Decision}
use Rattle.basil_types.specs.declared.party.Decision.TheVariants.{Commit, Abort}
use Rattle.client_steps.specs.declared.fault.CallFault.{CallFault}
use Rattle.client_steps.specs.declared.fault.CallFault.TheVariants.{NotOpen, SizeOut}
use Rattle.basil_types.specs.Built.{key_fits, write_fits}
use Rattle.client_core.specs.Answers.{on_frame}
use Rattle.client_core.specs.Calls.{call_begin, call_read, call_write, call_prepare}
use Rattle.client_core.specs.Clients.{ClientValue, ClientDone}
use Rattle.frame_views.specs.Carried.{pairs_in}
use Rattle.frame_views.specs.declared.fault.BadFrame.{BadFrame}
use Rattle.frame_views.specs.Fitting.{FitsMessage, FitsCertificate, bounds_of}
use Rattle.frame_views.specs.Values.{MessageValue, PairValue}
use Rattle.node_steps.specs.Envelopes.{EnvelopeValue}
use Rattle.premise_watch.specs.declared.broken.Broken.{Broken}
use Rattle.premise_watch.specs.Breaches.{first_breach}
use Rattle.premise_watch.specs.Marks.{marks}
use Rattle.replica_core.specs.declared.refusal.Refusal.{Refusal}
use Rattle.replica_core.specs.Answers.{answer}
use Rattle.replica_core.specs.Replicas.{Done}
use Rattle.txn_meta.specs.Form.{form_fault}
use Rattle.cluster_run.specs.declared.fault.WorldFault.{WorldFault}
use Rattle.cluster_run.specs.declared.fault.WorldFault.TheVariants as fault
use Rattle.cluster_run.specs.Certified.{IsProven, TestIsExact, CertifiedAreProven, ProvenAreCertified, CertifiedStay}
use Rattle.cluster_run.specs.Events as event
use Rattle.cluster_run.specs.Events.{EventValue, called, at_client, by_client, begun_by, with_begun, begins_in}
use Rattle.cluster_run.specs.Events.{at_tx, at_formed, reads_at, unless_formed, writes_at, formed_version}
use Rattle.cluster_run.specs.Events.{claims_at, prepared_by, prepares_own, prepare_fault, prepares_lie}
use Rattle.cluster_run.specs.Events.{prepares_at, settles_at, invokes_at, recovers_at, marked}
use Rattle.cluster_run.specs.Events.{at_message, lost, ticks, happens, kept, run}
use Rattle.cluster_run.specs.Faulty.{LieValue, has_left, after_lie, lies, faulty_vote, faulty_reply, faulty_word}
use Rattle.cluster_run.specs.Faulty.{faulty_proposal, faulty_second}
use Rattle.cluster_run.specs.Layers.{FramesFit}
use Rattle.cluster_run.specs.Parts.{is_proven, are_bytes, read_frame, saw, unless_broken, see_message, see, Mail}
use Rattle.cluster_run.specs.Parts.{posted, has_room, enter_all, enter, mail_of, replica_self, client_self, send}
use Rattle.cluster_run.specs.Parts.{replica_did, replica_handles, client_did, client_handles, handle_by, handle, hand}
use Rattle.cluster_run.specs.States.{posted_at, Setup, IsSetup, is_faulty, Posted, Delivered, BegunValue, FormedValue, Standing}
use Rattle.cluster_run.specs.States.{standing, client_at, State, start}
use Rattle.cluster_run.proofs.Finding.{ok_is}
use Rattle.cluster_run.proofs.Marking.{pairs_are}
use Rattle.cluster_run.proofs.Parting.{between, fits_by}
use Rattle.cluster_run.proofs.Seeing.{none_from}

module _ (s : Setup) (P : List PairValue → Type 0)
    (sees : (frame : List ℕ) (m : MessageValue) (certified : List PairValue) → read_frame s frame ≡ Ok m → P certified →
    P (certified ++ filter (is_proven s) (pairs_in m))) where
  -- where it ends well, it holds of what is certified
  abbrev Fine : Result State WorldFault → Type 0
  Fine (Ok st) = P st.certified
  Fine (Err e) = Unit {0}

  fine_ok : (r : Result State WorldFault) (st : State) → Fine r → r ≡ Ok st → P st.certified
  fine_ok r st k h = subst Fine h k

  then_fine : (r : Result State WorldFault) (f : State → Result State WorldFault) → Fine r → ((st : State) → P st.certified → Fine (f st)) →
      Fine (r >>= f)
  then_fine (Ok st) f k g = g st k
  then_fine (Err e) f k g = tt

  maybe_fine : {A : Type 0} (o : Option A) (f : A → Result State WorldFault) (other : Result State WorldFault) →
      ((a : A) → Fine (f a)) → Fine other → Fine (option_map_or f o other)
  maybe_fine None f other g k = k
  maybe_fine (Some a) f other g k = g a

  if_fine : (b : Bool) (x y : Result State WorldFault) → Fine x → Fine y → Fine (cond b x y)
  if_fine true x y j k = j
  if_fine false x y j k = k

  -- ---- frames and mail

  unbroken_fine : (b : Option Broken) (st : State) → P st.certified → Fine (unless_broken b st)
  unbroken_fine None st k = k
  unbroken_fine (Some b) st k = tt

  message_fine : (frame : List ℕ) (r : Result MessageValue BadFrame) (st : State) → read_frame s frame ≡ r → P st.certified →
      Fine (see_message s r st)
  message_fine frame (Ok m) st e k =
      unbroken_fine (first_breach s.kit.accepts st.watch (marks m)) (saw s m st) (sees frame m st.certified e k)
  message_fine frame (Err f) st e k = k

  see_fine : (frame : List ℕ) (st : State) → P st.certified → Fine (see s frame st)
  see_fine frame st k = message_fine frame (read_frame s frame) st refl k

  all_fine : (mail : List Mail) (st : State) → P st.certified → Fine (enter_all s mail st)
  all_fine [] st k = k
  all_fine (m ∷ mail) st k =
      let next : State = record st { pool = st.pool ++ posted m ∷ [] } in
      then_fine (see s m.frame next) (enter_all s mail) (see_fine m.frame next k) (λ t j. all_fine mail t j)

  enter_fine : (mail : List Mail) (st : State) → P st.certified → Fine (enter s mail st)
  enter_fine mail st k = if_fine (has_room s st mail) (enter_all s mail st) (Err _) (all_fine mail st k) tt

  send_fine : (p : Party) (words : List SignedWords) (sent : List EnvelopeValue) (st : State) → P st.certified →
      Fine (send s p words sent st)
  send_fine p words sent st k = enter_fine _ _ k

  -- ---- nodes

  replica_fine : (number : ℕ) (x : Standing) (r : Result Done Refusal) (st : State) → P st.certified → Fine (replica_did s number x r st)
  replica_fine number x (Ok d) st k = send_fine (Replica x.shard x.index) d.signed d.sent _ k
  replica_fine number x (Err e) st k = k

  standing_fine : (number : ℕ) (from : Party) (frame : List ℕ) (o : Option Standing) (st : State) → P st.certified →
      Fine (replica_handles s number from frame o st)
  standing_fine number from frame None st k = k
  standing_fine number from frame (Some x) st k =
      replica_fine number x (answer (replica_self s x.shard x.index) x.moment from x.book frame) st k

  client_fine : (number client : ℕ) (r : Result ClientDone FrameFault) (st : State) → P st.certified →
      Fine (client_did s number client r st)
  client_fine number client (Ok d) st k = send_fine (Client client) d.signed d.sent _ k
  client_fine number client (Err e) st k = k

  frame_fine : (number client : ℕ) (frame : List ℕ) (o : Option ClientValue) (st : State) → P st.certified →
      Fine (client_handles s number client frame o st)
  frame_fine number client frame None st k = k
  frame_fine number client frame (Some c) st k = client_fine number client (on_frame (client_self s client) c frame) st k

  by_fine : (number : ℕ) (from to : Party) (frame : List ℕ) (st : State) → P st.certified → Fine (handle_by s number from to frame st)
  by_fine number from (Replica shard index) frame st k = standing_fine number from frame (standing st shard index) st k
  by_fine number from (Client client) frame st k = frame_fine number client frame (client_at st client) st k

  hand_fine : (number : ℕ) (from to : Party) (frame : List ℕ) (st : State) → P st.certified → Fine (hand s number from to frame st)
  hand_fine number from to frame st k =
      then_fine (see s frame st) (handle s number from to frame) (see_fine frame st k)
      (λ t j. if_fine (is_faulty s to || not (are_bytes frame)) (Ok t) (handle_by s number from to frame t) j
      (by_fine number from to frame t j))

  -- ---- calls

  called_fine : (client : ℕ) (r : Result ClientDone CallFault) (st : State) → P st.certified → Fine (called s client r st)
  called_fine client (Ok d) st k = send_fine (Client client) d.signed d.sent _ k
  called_fine client (Err e) st k = tt

  at_fine : (client : ℕ) (call : ClientValue → Result ClientDone CallFault) (o : Option ClientValue) (st : State) → P st.certified →
      Fine (at_client s client call o st)
  at_fine client call None st k = k
  at_fine client call (Some c) st k = called_fine client (call c) st k

  call_fine : (client : ℕ) (call : ClientValue → Result ClientDone CallFault) (st : State) → P st.certified →
      Fine (by_client s client call st)
  call_fine client call st k = at_fine client call (client_at st client) st k

  begins_by : (client time : ℕ) (o : Option ClientValue) (st : State) → P st.certified → Fine (begins_in s client time o st)
  begins_by client time None st k = k
  begins_by client time (Some c) st k = called_fine client (call_begin c time) _ k

  unless_fine : (b : BegunValue) (fits : Bool) (answer : Result State WorldFault) → Fine answer → Fine (unless_formed b fits answer)
  unless_fine b fits answer k =
      if_fine (is_some b.formed) (Err (fault.Call NotOpen)) _ tt (if_fine fits answer (Err (fault.Call SizeOut)) k tt)

  claims_fine : (tx : ℕ) (key : List ℕ) (v : Option Version) (b : BegunValue) (st : State) → P st.certified →
      Fine (claims_at tx key v b st)
  claims_fine tx key None b st k = k
  claims_fine tx key (Some v) b st k = unless_fine b (key_fits key) (Ok _) k

  prepared_fine : (tx : ℕ) (b : BegunValue) (slot : ℕ) (r : Result ClientDone CallFault) (st : State) → P st.certified →
      Fine (prepared_by s tx b slot r st)
  prepared_fine tx b slot (Ok d) st k = called_fine b.client (Ok d) _ k
  prepared_fine tx b slot (Err e) st k = tt

  fault_fine : (f : Option WorldFault) (answer : Result State WorldFault) → Fine answer → Fine (unless_refused f answer)
  fault_fine None answer k = k
  fault_fine (Some f) answer k = tt

  prepares_fine : (tx : ℕ) (b : BegunValue) (st : State) → P st.certified → Fine (prepares_at s tx b st)
  prepares_fine tx b st k =
      maybe_fine b.slot (λ slot. prepares_own s tx b slot st) (unless_refused (prepare_fault s b st) (prepares_lie s tx b st))
      (λ slot. maybe_fine (client_at st b.client) (λ c. prepared_by s tx b slot (call_prepare (client_self s b.client) c slot) st) (Ok st)
      (λ c. prepared_fine tx b slot (call_prepare (client_self s b.client) c slot) st k) k)
      (fault_fine (prepare_fault s b st) (prepares_lie s tx b st) (send_fine (Client b.client) [] _ _ k))

  lies_fine : (p : Party) (lie : LieValue) (st : State) → P st.certified → Fine (lies s p lie st)
  lies_fine p lie st k =
      if_fine (has_left s st p) (enter s (mail_of p lie.envelope ∷ []) (after_lie st p lie.words)) (Err (fault.Exhausted p))
      (enter_fine (mail_of p lie.envelope ∷ []) (after_lie st p lie.words) k) tt

  ticks_fine : (moment : ℕ) (o : Option Standing) (st : State) → P st.certified → P (ticks moment o st).certified
  ticks_fine moment None st k = k
  ticks_fine moment (Some x) st k = k

  -- ---- events

  tx_fine : (tx : ℕ) (what : BegunValue → State → Result State WorldFault) (st : State) → P st.certified →
      ((b : BegunValue) → Fine (what b st)) → Fine (at_tx tx what st)
  tx_fine tx what st k f = maybe_fine (slice_get st.begun tx) (λ b. what b st) (Ok st) f k

  formed_fine : (tx : ℕ) (what : FormedValue → State → Result State WorldFault) (st : State) → P st.certified →
      ((f : FormedValue) → Fine (what f st)) → Fine (at_formed tx what st)
  formed_fine tx what st k f =
      maybe_fine (option_and_then (λ (b : BegunValue). b.formed) (slice_get st.begun tx)) (λ b. what b st) (Ok st) f k

  posted_fine : (message : ℕ) (what : Posted → State → Result State WorldFault) (st : State) → P st.certified →
      ((p : Posted) → Fine (what p st)) → Fine (at_message message what st)
  posted_fine message what st k f = maybe_fine (posted_at st message) (λ p. what p st) (Ok st) f k

  happens_fine : (e : EventValue) (st : State) → P st.certified → Fine (happens s e st)
  happens_fine (event.Begin client time) st k =
      if_fine (is_faulty s (Client client)) (Ok (with_begun (begun_by client time None) st))
      (begins_in s client time (client_at st client) st) k
      (begins_by client time (client_at st client) st k)
  happens_fine (event.Read tx key) st k =
      tx_fine tx (reads_at s key) st k
      (λ b. maybe_fine b.slot (λ slot. by_client s b.client (λ c. call_read (client_self s b.client) c slot key) st) (Ok st)
      (λ slot. call_fine b.client (λ c. call_read (client_self s b.client) c slot key) st k) k)
  happens_fine (event.Write tx w) st k =
      tx_fine tx (writes_at s tx w) st k
      (λ b. maybe_fine b.slot (λ slot. by_client s b.client (λ c. call_write c slot w) st) (unless_formed b (write_fits w) (Ok _))
      (λ slot. call_fine b.client (λ c. call_write c slot w) st k) (unless_fine b (write_fits w) (Ok _) k))
  happens_fine (event.Claim tx key None) st k =
      tx_fine tx (claims_at tx key (Some genesis)) st k (λ b. claims_fine tx key (Some genesis) b st k)
  happens_fine (event.Claim tx key (Some writer)) st k =
      tx_fine tx (claims_at tx key (formed_version st writer)) st k (λ b. claims_fine tx key (formed_version st writer) b st k)
  happens_fine (event.Prepare tx) st k = tx_fine tx (prepares_at s tx) st k (λ b. prepares_fine tx b st k)
  happens_fine (event.Settle tx client) st k = formed_fine tx (settles_at s client) st k (λ f. call_fine client _ st k)
  happens_fine (event.Recover tx client) st k = formed_fine tx (recovers_at s client) st k (λ f. call_fine client _ st k)
  happens_fine (event.Invoke tx client) st k = formed_fine tx (invokes_at s client) st k (λ f. call_fine client _ st k)
  happens_fine (event.Deliver message given) st k =
      posted_fine message (λ p st. hand s message p.from p.to given (marked (message - 1) Delivered p st)) st k
      (λ p. hand_fine message p.from p.to given (marked (message - 1) Delivered p st) k)
  happens_fine (event.Lose message) st k = posted_fine message (λ p st. Ok (marked (message - 1) (lost p.fate) p st)) st k (λ p. k)
  happens_fine (event.Divert message to given) st k =
      posted_fine message (λ p st. hand s message p.from to given st) st k (λ p. hand_fine message p.from to given st k)
  happens_fine (event.Clock shard r moment) st k = ticks_fine moment (standing st shard r) st k
  happens_fine (event.Vote shard r tx d client) st k =
      formed_fine tx (λ f st. lies s (Replica shard r) (faulty_vote s shard r f.transaction d client st) st) st k
      (λ f. lies_fine (Replica shard r) (faulty_vote s shard r f.transaction d client st) st k)
  happens_fine (event.Second tx d r) st k =
      formed_fine tx (λ f st. enter s (faulty_second s f d r st) st) st k (λ f. enter_fine (faulty_second s f d r st) st k)
  happens_fine (event.Logged shard r tx d decided current client) st k =
      formed_fine tx (λ f st. lies s (Replica shard r) (faulty_reply s shard r f.transaction d decided current client st) st) st k
      (λ f. lies_fine (Replica shard r) (faulty_reply s shard r f.transaction d decided current client st) st k)
  happens_fine (event.Elect shard r tx d view) st k =
      formed_fine tx (λ f st. lies s (Replica shard r) (faulty_word s shard r f.transaction d view st) st) st k
      (λ f. lies_fine (Replica shard r) (faulty_word s shard r f.transaction d view st) st k)
  happens_fine (event.Decide shard r tx d view to) st k =
      formed_fine tx (λ f st. lies s (Replica shard r) (faulty_proposal s shard r f.transaction d view to st) st) st k
      (λ f. lies_fine (Replica shard r) (faulty_proposal s shard r f.transaction d view to st) st k)
  happens_fine (event.Raw from to frame) st k = enter_fine (record { from = from; to = to; frame = frame } ∷ []) st k
  happens_fine (event.Show frame) st k = see_fine frame st k

  -- ---- the run

  kept_fine : (r : Result State WorldFault) (st t : State) → Fine r → P st.certified → kept st r ≡ Ok t → P t.certified
  kept_fine (Ok after) st t f k h = subst (λ (x : State). P x.certified) (ok_is after t (kept st (Ok after)) refl h) f
  kept_fine (Err (fault.Broken b)) st t f k h = absurd cc
  kept_fine (Err (fault.PoolFull messages bytes)) st t f k h =
      subst (λ (x : State). P x.certified) (ok_is st t (kept st (Err (fault.PoolFull messages bytes))) refl h) k
  kept_fine (Err (fault.Call e)) st t f k h =
      subst (λ (x : State). P x.certified) (ok_is st t (kept st (Err (fault.Call e))) refl h) k
  kept_fine (Err (fault.Exhausted party)) st t f k h =
      subst (λ (x : State). P x.certified) (ok_is st t (kept st (Err (fault.Exhausted party))) refl h) k

  pub run_fine : (es : List EventValue) (st t : State) → P st.certified → run s es st ≡ Ok t → P t.certified
  run_fine [] st t k h = subst (λ (x : State). P x.certified) (ok_is st t (run s [] st) refl h) k
  run_fine (e ∷ es) st t k h =
      let b = between (kept st (happens s e st)) (run s es) t h in
      run_fine es b.start t (kept_fine (happens s e st) st b.start (happens_fine e st k) k b.first) b.second

-- ---- certified and proven are one

form_of : (s : Setup) (p : PairValue) (d : Decision) → Proves s.kit.accepts s.cluster p.transaction d p.certificate →
    HasGoodForm p.transaction
form_of s p Commit k = k.form
form_of s p Abort k = k.form

module _ (exactly : CertificatesExactly) (s : Setup) (ok : IsSetup s) where
  to_proven : (p : PairValue) → FitsCertificate (bounds_of s.cluster) p.certificate → is_proven s p ≡ true → IsProven s p
  to_proven p fits h =
      let verdict = refusal s.kit.accepts s.cluster p.transaction (decision_of p.certificate.body) p.certificate in
      let both = and_parts (is_none (form_fault p.transaction)) (is_none verdict) h in
      (exactly s.kit.accepts s.cluster p.transaction (decision_of p.certificate.body) p.certificate ok.setting fits
      (none_from (form_fault p.transaction) both.0)).0 (none_from verdict both.1)

  from_proven : (p : PairValue) → FitsCertificate (bounds_of s.cluster) p.certificate → IsProven s p → is_proven s p ≡ true
  from_proven p fits k =
      let form = form_of s p (decision_of p.certificate.body) k in
      and_from _ _ (ap is_none form) (ap is_none
      ((exactly s.kit.accepts s.cluster p.transaction (decision_of p.certificate.body) p.certificate ok.setting fits form).1 k))

  abbrev AreProven : List PairValue → Type 0
  AreProven certified = (p : PairValue) → Contains certified p → IsProven s p

  more_proven : (m : MessageValue) → FitsMessage (bounds_of s.cluster) m → (certified : List PairValue) → AreProven certified →
      AreProven (certified ++ filter (is_proven s) (pairs_in m))
  more_proven m fits certified k p i = elim (Contains-append_cases certified (filter (is_proven s) (pairs_in m)) p i) [
    | inl j ↦ k p j
    | inr j ↦
        let found = in_filter (is_proven s) (pairs_in m) p j in
        to_proven p (pairs_are (bounds_of s.cluster) m p fits found.0).fits found.1
  ]

pub certified_are_proven : FramesFit → CertificatesExactly → CertifiedAreProven
certified_are_proven frames_fit exactly s ok events st h =
    run_fine s (AreProven exactly s ok)
    (λ frame m certified e k. more_proven exactly s ok m (fits_by frames_fit s ok frame (are_bytes frame) refl m e) certified k)
    events (start s) st (λ p i. absurd (omega (arith, i.1))) h

pub proven_are_certified : CertificatesExactly → ProvenAreCertified
proven_are_certified exactly s ok m fits st p i k =
    Contains-append_right st.certified (filter (is_proven s) (pairs_in m)) p
    (filter_in (is_proven s) (pairs_in m) p i (from_proven exactly s ok p (pairs_are (bounds_of s.cluster) m p fits i).fits k))

pub test_is_exact : CertificatesExactly → TestIsExact
test_is_exact exactly s ok p fits = (to_proven exactly s ok p fits, from_proven exactly s ok p fits)

pub certified_stay : CertifiedStay
certified_stay s events from to h p i =
    run_fine s (λ certified. Contains certified p)
    (λ frame m certified e k. Contains-append_left certified (filter (is_proven s) (pairs_in m)) p k) events from to i h
