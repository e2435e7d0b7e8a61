-- What leaves the replicas as they are.
use Rattle.std.proofs.Common.{◌≡◌, ℕ, Bool, true, false, List, [], ◌∷◌, ◌++◌, Option, Some, None, refl, subst}
use Rattle.std.specs.Prelude.{Result, Ok, Err, map, length, slice_get, slice_set, ◌-◌, is_some, ⊤}
use Rattle.std.specs.Prelude.{if◌then◌else◌, option_and_then}
use Rattle.std.specs.Option.{option_map_or}
use Rattle.basil_types.specs.declared.party.Party.{Party}
use Rattle.basil_types.specs.declared.party.Party.TheVariants.{Client}
use Rattle.basil_types.specs.declared.transaction.parts.WritePart.{WritePart}
use Rattle.basil_types.specs.declared.version.Version.{Version}
use Rattle.basil_types.specs.Built.{built, write_fits}
use Rattle.basil_types.specs.Steps.{◌>>=◌}
use Rattle.basil_types.specs.Transaction.{id}
use Rattle.basil_types.specs.Words.{SignedWords, TransactionWords}
use Rattle.certificates.specs.declared.fault.FrameFault.{FrameFault}
use Rattle.client_core.specs.Answers.{on_frame}
use Rattle.client_core.specs.Calls.{call_begin, call_read, call_write, call_prepare, call_settle, call_recover, call_invoke}
use Rattle.client_core.specs.Clients.{ClientValue, ClientDone}
use Rattle.client_steps.specs.declared.fault.CallFault.{CallFault}
use Rattle.client_core.specs.Slots.{slot_of_id}
use Rattle.client_recover.specs.Pursuits.{to_involved}
use Rattle.frame_views.specs.declared.fault.BadFrame.{BadFrame}
use Rattle.frame_views.specs.Values.{MessageValue, St1}
use Rattle.node_steps.specs.Envelopes.{EnvelopeValue}
use Rattle.node_steps.specs.Refusing.{unless_refused}
use Rattle.premise_watch.specs.Breaches.{first_breach}
use Rattle.premise_watch.specs.declared.broken.Broken.{Broken}
use Rattle.premise_watch.specs.Marks.{marks}
use Rattle.cluster_run.specs.declared.fault.WorldFault.{WorldFault}
use Rattle.cluster_run.specs.Events as event
use Rattle.cluster_run.specs.Faulty.{LieValue, after_lie, faulty_signature, has_left, lies}
use Rattle.cluster_run.specs.Parts as parts
use Rattle.cluster_run.specs.Parts.{Mail, client_self, enter, enter_all, has_room, mail_of, noted, read_frame, see, send}
use Rattle.cluster_run.specs.States.{BegunValue, FormedValue, Setup, Standing, State, client_at, is_faulty}

-- what ends well has these replicas
abbrev pub Stays : List Standing → Result State WorldFault → Type 0
Stays rs (Ok after) = after.replicas ≡ rs
Stays rs (Err e) = ⊤

module _ (s : Setup) where
  stays_then : (rs : List Standing) (r : Result State WorldFault) (f : State → Result State WorldFault) → Stays rs r →
      ((next : State) → Stays next.replicas (f next)) → Stays rs (r >>= f)
  stays_then rs (Ok next) f h k = subst (λ l. Stays l (f next)) h (k next)
  stays_then rs (Err e) f h k = tt

  pub stays_if : (b : Bool) (rs : List Standing) (x y : Result State WorldFault) → Stays rs x → Stays rs y →
      Stays rs (if b then x else y)
  stays_if true rs x y h k = h
  stays_if false rs x y h k = k

  pub stays_opt : {A : Type 0} (o : Option A) (f : A → Result State WorldFault) (rs : List Standing) (y : Result State WorldFault) →
      ((a : A) → Stays rs (f a)) → Stays rs y → Stays rs (option_map_or f o y)
  stays_opt None f rs y h k = k
  stays_opt (Some a) f rs y h k = h a

  -- ---- what is seen, and what enters the pool

  pub see_stays : (frame : List ℕ) (st : State) → Stays st.replicas (see s frame st)
  see_stays frame st = by (read_frame s frame)
    where
      unless : (m : MessageValue) (o : Option Broken) → Stays st.replicas (parts.unless_broken o (parts.saw s m st))
      unless m None = refl
      unless m (Some b) = tt

      by : (r : Result MessageValue BadFrame) → Stays st.replicas (parts.see_message s r st)
      by (Ok m) = unless m (first_breach s.kit.accepts st.watch (marks m))
      by (Err e) = refl

  enter_all_stays : (mail : List Mail) (st : State) → Stays st.replicas (enter_all s mail st)
  enter_all_stays [] st = refl
  enter_all_stays (m ∷ mail) st =
      let mid : State = record st { pool = st.pool ++ parts.posted m ∷ [] } in
      stays_then st.replicas (see s m.frame mid) (enter_all s mail) (see_stays m.frame mid) (enter_all_stays mail)

  pub enter_stays : (mail : List Mail) (st : State) → Stays st.replicas (enter s mail st)
  enter_stays mail st = stays_if (has_room s st mail) st.replicas (enter_all s mail st) _ (enter_all_stays mail st) tt

  pub send_stays : (from : Party) (words : List SignedWords) (sent : List EnvelopeValue) (st : State) →
      Stays st.replicas (send s from words sent st)
  send_stays from words sent st = enter_stays (map (mail_of from) sent) (record st { watch = noted from words st.watch })

  -- ---- clients

  pub client_stays : (number client : ℕ) (frame : List ℕ) (o : Option ClientValue) (st : State) →
      Stays st.replicas (parts.client_handles s number client frame o st)
  client_stays number client frame None st = refl
  client_stays number client frame (Some c) st = by (on_frame (client_self s client) c frame)
    where
      by : (r : Result ClientDone FrameFault) → Stays st.replicas (parts.client_did s number client r st)
      by (Ok d) = send_stays (Client client) d.signed d.sent (record st { clients = slice_set st.clients (client - 1) d.client })
      by (Err e) = refl

  called_stays : (client : ℕ) (r : Result ClientDone CallFault) (st : State) → Stays st.replicas (event.called s client r st)
  called_stays client (Ok d) st =
      send_stays (Client client) d.signed d.sent (record st { clients = slice_set st.clients (client - 1) d.client })
  called_stays client (Err f) st = tt

  pub by_client_stays : (client : ℕ) (call : ClientValue → Result ClientDone CallFault) (st : State) →
      Stays st.replicas (event.by_client s client call st)
  by_client_stays client call st = by (client_at st client)
    where
      by : (o : Option ClientValue) → Stays st.replicas (event.at_client s client call o st)
      by None = refl
      by (Some c) = called_stays client (call c) st

  -- ---- begun transactions

  pub begins_stays : (client time : ℕ) (st : State) → Stays st.replicas (event.begins s client time st)
  begins_stays client time st =
      stays_if (is_faulty s (Client client)) st.replicas (Ok (event.with_begun (event.begun_by client time None) st))
      (event.begins_in s client time (client_at st client) st) refl (by (client_at st client))
    where
      by : (o : Option ClientValue) → Stays st.replicas (event.begins_in s client time o st)
      by None = refl
      by (Some c) =
          called_stays client (call_begin c time) (event.with_begun (event.begun_by client time (Some (length c.slots))) st)

  pub at_tx_stays : (tx : ℕ) (what : BegunValue → State → Result State WorldFault) (st : State) →
      ((b : BegunValue) → Stays st.replicas (what b st)) → Stays st.replicas (event.at_tx tx what st)
  at_tx_stays tx what st h = stays_opt (slice_get st.begun tx) (λ b. what b st) st.replicas (Ok st) h refl

  pub at_formed_stays : (tx : ℕ) (what : FormedValue → State → Result State WorldFault) (st : State) →
      ((f : FormedValue) → Stays st.replicas (what f st)) → Stays st.replicas (event.at_formed tx what st)
  at_formed_stays tx what st h =
      stays_opt (option_and_then (λ (b : BegunValue). b.formed) (slice_get st.begun tx)) (λ f. what f st) st.replicas (Ok st) h refl

  unless_formed_stays : (b : BegunValue) (fits : Bool) (st : State) (r : Result State WorldFault) → Stays st.replicas r →
      Stays st.replicas (event.unless_formed b fits r)
  unless_formed_stays b fits st r h = stays_if (is_some b.formed) st.replicas _ _ tt (stays_if fits st.replicas r _ h tt)

  pub reads_stays : (key : List ℕ) (b : BegunValue) (st : State) → Stays st.replicas (event.reads_at s key b st)
  reads_stays key b st =
      stays_opt b.slot _ st.replicas (Ok st)
      (λ slot. by_client_stays b.client (λ c. call_read (client_self s b.client) c slot key) st) refl

  pub writes_stays : (tx : ℕ) (w : WritePart) (b : BegunValue) (st : State) → Stays st.replicas (event.writes_at s tx w b st)
  writes_stays tx w b st =
      stays_opt b.slot _ st.replicas _ (λ slot. by_client_stays b.client (λ c. call_write c slot w) st)
      (unless_formed_stays b (write_fits w) st (Ok (event.set_begun tx _ st)) refl)

  pub claims_stays : (tx : ℕ) (key : List ℕ) (o : Option Version) (b : BegunValue) (st : State) →
      Stays st.replicas (event.claims_at tx key o b st)
  claims_stays tx key None b st = refl
  claims_stays tx key (Some v) b st = unless_formed_stays b _ st (Ok (event.set_begun tx _ st)) refl

  -- ---- prepare

  prepared_stays : (tx : ℕ) (b : BegunValue) (slot : ℕ) (r : Result ClientDone CallFault) (st : State) →
      Stays st.replicas (event.prepared_by s tx b slot r st)
  prepared_stays tx b slot (Ok d) st =
      called_stays b.client (Ok d) (event.set_begun tx (record b { formed = event.formed_in slot d }) st)
  prepared_stays tx b slot (Err f) st = tt

  pub prepares_stays : (tx : ℕ) (b : BegunValue) (st : State) → Stays st.replicas (event.prepares_at s tx b st)
  prepares_stays tx b st =
      stays_opt b.slot (λ slot. event.prepares_own s tx b slot st) st.replicas _ own (by (event.prepare_fault s b st))
    where
      own : (slot : ℕ) → Stays st.replicas (event.prepares_own s tx b slot st)
      own slot = stays_opt (client_at st b.client) _ st.replicas (Ok st)
          (λ c. prepared_stays tx b slot (call_prepare (client_self s b.client) c slot) st) refl

      by : (o : Option WorldFault) → Stays st.replicas (unless_refused o (event.prepares_lie s tx b st))
      by None =
          let t = built b.time b.client b.reads b.writes in
          let words = TransactionWords (id t) in
          let f : FormedValue = record { transaction = t; signature = faulty_signature s st (Client b.client) words } in
          send_stays (Client b.client) [] (to_involved s.cluster t (St1 (record { transaction = t; signature = f.signature })))
          (event.set_begun tx (record b { formed = Some f }) (after_lie st (Client b.client) words))
      by (Some e) = tt

  -- ---- settle, recover, invoke

  pub settles_stays : (client : ℕ) (f : FormedValue) (st : State) → Stays st.replicas (event.settles_at s client f st)
  settles_stays client f st =
      by_client_stays client (λ c. event.held_call (slot_of_id c (id f.transaction)) (call_settle (client_self s client) c)) st

  pub invokes_stays : (client : ℕ) (f : FormedValue) (st : State) → Stays st.replicas (event.invokes_at s client f st)
  invokes_stays client f st =
      by_client_stays client (λ c. event.held_call (slot_of_id c (id f.transaction)) (call_invoke (client_self s client) c)) st

  pub recovers_stays : (client : ℕ) (f : FormedValue) (st : State) → Stays st.replicas (event.recovers_at s client f st)
  recovers_stays client f st =
      by_client_stays client (λ c. call_recover (client_self s client) c f.transaction f.signature) st

  -- ---- faulty parties

  pub lies_stays : (p : Party) (lie : LieValue) (st : State) → Stays st.replicas (lies s p lie st)
  lies_stays p lie st =
      stays_if (has_left s st p) st.replicas (enter s (mail_of p lie.envelope ∷ []) (after_lie st p lie.words)) _
      (enter_stays (mail_of p lie.envelope ∷ []) (after_lie st p lie.words)) tt
