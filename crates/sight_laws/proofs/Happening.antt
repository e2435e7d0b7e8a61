-- Each event leaves what was seen seen, and has what enters the pool seen.
use Rattle.std.proofs.Common.{◌≡◌, ℕ, Bool, true, false, cond, List, [], ◌∷◌, ◌++◌, Option, Some, None, refl, sym, ap, subst, ◌∙◌}
use Rattle.std.proofs.Common.{inl, inr, zero, suc}
use Rattle.std.specs.Prelude.{Contains, Result, Ok, Err, map, length, slice_get, slice_set, not, ◌||◌, nat_le, ◌-◌, is_some, ⊤}
use Rattle.std.specs.Prelude.{if◌then◌else◌, option_and_then}
use Rattle.std.specs.Option.{option_map_or}
use Rattle.basil_types.specs.declared.party.Party.{Party}
use Rattle.basil_types.specs.declared.party.Party.TheVariants.{Replica, Client}
use Rattle.basil_types.specs.declared.transaction.parts.WritePart.{WritePart}
use Rattle.basil_types.specs.declared.version.Version.{Version}
use Rattle.basil_types.specs.Built.{built, write_fits}
use Rattle.basil_types.specs.Steps.{◌>>=◌}
use Rattle.basil_types.specs.Transaction.{id}
use Rattle.basil_types.specs.Version.{genesis}
use Rattle.basil_types.specs.Words.{SignedWords, TransactionWords}
use Rattle.certificates.specs.declared.fault.FrameFault.{FrameFault}
use Rattle.client_core.specs.Answers.{on_frame}
use Rattle.client_core.specs.Calls.{call_begin, call_read, call_write, call_prepare, call_settle, call_recover, call_invoke}
use Rattle.client_core.specs.Clients.{ClientValue, ClientDone}
use Rattle.client_steps.specs.declared.fault.CallFault.{CallFault}
use Rattle.client_core.specs.Slots.{slot_of_id}
use Rattle.client_recover.specs.Pursuits.{to_involved}
use Rattle.frame_views.specs.Values.{St1}
use Rattle.message_pool.specs.declared.posted.Fate.{Fate}
use Rattle.node_steps.specs.Envelopes.{EnvelopeValue}
use Rattle.node_steps.specs.Refusing.{unless_refused}
use Rattle.premise_watch.specs.declared.broken.Broken.{Broken}
use Rattle.replica_core.specs.Answers.{answer}
use Rattle.replica_core.specs.declared.refusal.Refusal.{Refusal}
use Rattle.replica_core.specs.Replicas.{Done}
use Rattle.cluster_run.specs.declared.fault.WorldFault.{WorldFault}
use Rattle.cluster_run.specs.declared.fault.WorldFault.TheVariants as fault
use Rattle.cluster_run.specs.Events as event
use Rattle.cluster_run.specs.Events.{EventValue, happens, kept, run, marked, lost}
use Rattle.cluster_run.specs.Faulty.{LieValue, after_lie, faulty_proposal, faulty_reply, faulty_second, faulty_signature, faulty_vote}
use Rattle.cluster_run.specs.Faulty.{faulty_word, has_left, lies}
use Rattle.cluster_run.specs.Parts as parts
use Rattle.cluster_run.specs.Parts.{Mail, client_self, enter, enter_all, has_room, mail_of, noted, read_frame, replica_self, see, send}
use Rattle.cluster_run.specs.States.{BegunValue, FormedValue, Posted, Setup, Standing, State, client_at, is_faulty, posted_at, put_standing}
use Rattle.cluster_run.specs.States.{standing, start, Delivered}
use Rattle.sight_laws.specs.Seen.{PoolIsSeen, PostedAreSeen, SeenStays}
use Rattle.basil_types.proofs.MemberLaws.{in_cases, in_head, in_none, in_tail}
use Rattle.sight_laws.proofs.Growing.{Fine, Grows, enters, fine_from, grows_noted, grows_same, grows_then, see_fine, stays_seen}
use Rattle.sight_laws.proofs.Growing.{still}

module _ (s : Setup) where
  fine_then : (st : State) (r : Result State WorldFault) (f : State → Result State WorldFault) → Fine s st r →
      ((next : State) → Fine s next (f next)) → Fine s st (r >>= f)
  fine_then st (Ok next) f h k = fine_from s st next (f next) h (k next)
  fine_then st (Err e) f h k = tt

  fine_if : (b : Bool) (st : State) (x y : Result State WorldFault) → Fine s st x → Fine s st y → Fine s st (if b then x else y)
  fine_if true st x y h k = h
  fine_if false st x y h k = k

  fine_opt : {A : Type 0} (o : Option A) (f : A → Result State WorldFault) (st : State) (y : Result State WorldFault) →
      ((a : A) → Fine s st (f a)) → Fine s st y → Fine s st (option_map_or f o y)
  fine_opt None f st y h k = k
  fine_opt (Some a) f st y h k = h a

  -- ---- what enters the pool

  enter_all_fine : (mail : List Mail) (st : State) → Fine s st (enter_all s mail st)
  enter_all_fine [] st = grows_same s st
  enter_all_fine (m ∷ mail) st = fine_then st (see s m.frame (record st { pool = st.pool ++ parts.posted m ∷ [] })) (enter_all s mail)
      (enters s m st) (enter_all_fine mail)

  enter_fine : (mail : List Mail) (st : State) → Fine s st (enter s mail st)
  enter_fine mail st = fine_if (has_room s st mail) st (enter_all s mail st) _ (enter_all_fine mail st) tt

  send_fine : (from : Party) (words : List SignedWords) (sent : List EnvelopeValue) (st : State) → Fine s st (send s from words sent st)
  send_fine from words sent st =
      let mid : State = record st { watch = noted from words st.watch } in
      fine_from s st mid (enter s (map (mail_of from) sent) mid) (grows_noted s st from words) (enter_fine (map (mail_of from) sent) mid)

  -- ---- nodes

  replica_fine : (number : ℕ) (from : Party) (frame : List ℕ) (o : Option Standing) (st : State) →
      Fine s st (parts.replica_handles s number from frame o st)
  replica_fine number from frame None st = grows_same s st
  replica_fine number from frame (Some x) st = by (answer (replica_self s x.shard x.index) x.moment from x.book frame)
    where
      by : (r : Result Done Refusal) → Fine s st (parts.replica_did s number x r st)
      by (Ok d) =
          let mid : State = record st { replicas = put_standing (record x { book = d.book }) st.replicas } in
          fine_from s st mid (send s (Replica x.shard x.index) d.signed d.sent mid) (still s st mid refl refl refl)
          (send_fine (Replica x.shard x.index) d.signed d.sent mid)
      by (Err e) = still s st (record st { refused = Some number }) refl refl refl

  client_fine : (number client : ℕ) (frame : List ℕ) (o : Option ClientValue) (st : State) →
      Fine s st (parts.client_handles s number client frame o st)
  client_fine number client frame None st = grows_same s st
  client_fine number client frame (Some c) st = by (on_frame (client_self s client) c frame)
    where
      by : (r : Result ClientDone FrameFault) → Fine s st (parts.client_did s number client r st)
      by (Ok d) =
          let mid : State = record st { clients = slice_set st.clients (client - 1) d.client } in
          fine_from s st mid (send s (Client client) d.signed d.sent mid) (still s st mid refl refl refl)
          (send_fine (Client client) d.signed d.sent mid)
      by (Err e) = still s st (record st { refused = Some number }) refl refl refl

  handle_fine : (number : ℕ) (from to : Party) (frame : List ℕ) (st : State) → Fine s st (parts.handle s number from to frame st)
  handle_fine number from to frame st =
      fine_if (is_faulty s to || not (parts.are_bytes frame)) st (Ok st) (parts.handle_by s number from to frame st) (grows_same s st)
      (by to)
    where
      by : (to : Party) → Fine s st (parts.handle_by s number from to frame st)
      by (Replica shard index) = replica_fine number from frame (standing st shard index) st
      by (Client client) = client_fine number client frame (client_at st client) st

  hand_fine : (number : ℕ) (from to : Party) (frame : List ℕ) (st : State) → Fine s st (parts.hand s number from to frame st)
  hand_fine number from to frame st =
      fine_then st (see s frame st) (parts.handle s number from to frame) (see_fine s frame st) (handle_fine number from to frame)

  -- ---- calls of correct clients

  called_fine : (client : ℕ) (r : Result ClientDone CallFault) (st : State) → Fine s st (event.called s client r st)
  called_fine client (Ok d) st =
      let mid : State = record st { clients = slice_set st.clients (client - 1) d.client } in
      fine_from s st mid (send s (Client client) d.signed d.sent mid) (still s st mid refl refl refl)
      (send_fine (Client client) d.signed d.sent mid)
  called_fine client (Err f) st = tt

  by_client_fine : (client : ℕ) (call : ClientValue → Result ClientDone CallFault) (st : State) →
      Fine s st (event.by_client s client call st)
  by_client_fine client call st = by (client_at st client)
    where
      by : (o : Option ClientValue) → Fine s st (event.at_client s client call o st)
      by None = grows_same s st
      by (Some c) = called_fine client (call c) st

  begun_still : (b : BegunValue) (st : State) → Grows s st (event.with_begun b st)
  begun_still b st = still s st (event.with_begun b st) refl refl refl

  set_still : (tx : ℕ) (b : BegunValue) (st : State) → Grows s st (event.set_begun tx b st)
  set_still tx b st = still s st (event.set_begun tx b st) refl refl refl

  begins_fine : (client time : ℕ) (st : State) → Fine s st (event.begins s client time st)
  begins_fine client time st =
      fine_if (is_faulty s (Client client)) st (Ok (event.with_begun (event.begun_by client time None) st))
      (event.begins_in s client time (client_at st client) st) (begun_still (event.begun_by client time None) st) (by (client_at st client))
    where
      by : (o : Option ClientValue) → Fine s st (event.begins_in s client time o st)
      by None = grows_same s st
      by (Some c) =
          let b = event.begun_by client time (Some (length c.slots)) in
          fine_from s st (event.with_begun b st) (event.called s client (call_begin c time) (event.with_begun b st)) (begun_still b st)
          (called_fine client (call_begin c time) (event.with_begun b st))

  at_tx_fine : (tx : ℕ) (what : BegunValue → State → Result State WorldFault) (st : State) →
      ((b : BegunValue) → Fine s st (what b st)) → Fine s st (event.at_tx tx what st)
  at_tx_fine tx what st h = fine_opt (slice_get st.begun tx) (λ b. what b st) st (Ok st) h (grows_same s st)

  at_formed_fine : (tx : ℕ) (what : FormedValue → State → Result State WorldFault) (st : State) →
      ((f : FormedValue) → Fine s st (what f st)) → Fine s st (event.at_formed tx what st)
  at_formed_fine tx what st h =
      fine_opt (option_and_then (λ (b : BegunValue). b.formed) (slice_get st.begun tx)) (λ f. what f st) st (Ok st) h (grows_same s st)

  unless_formed_fine : (b : BegunValue) (fits : Bool) (st : State) (r : Result State WorldFault) → Fine s st r →
      Fine s st (event.unless_formed b fits r)
  unless_formed_fine b fits st r h = fine_if (is_some b.formed) st _ _ tt (fine_if fits st r _ h tt)

  writes_fine : (tx : ℕ) (w : WritePart) (b : BegunValue) (st : State) → Fine s st (event.writes_at s tx w b st)
  writes_fine tx w b st =
      fine_opt b.slot _ st _ (λ slot. by_client_fine b.client (λ c. call_write c slot w) st)
      (unless_formed_fine b (write_fits w) st (Ok (event.set_begun tx _ st)) (set_still tx _ st))

  claims_fine : (tx : ℕ) (key : List ℕ) (o : Option Version) (b : BegunValue) (st : State) → Fine s st (event.claims_at tx key o b st)
  claims_fine tx key None b st = grows_same s st
  claims_fine tx key (Some v) b st = unless_formed_fine b _ st (Ok (event.set_begun tx _ st)) (set_still tx _ st)

  -- ---- prepare

  prepared_fine : (tx : ℕ) (b : BegunValue) (slot : ℕ) (r : Result ClientDone CallFault) (st : State) →
      Fine s st (event.prepared_by s tx b slot r st)
  prepared_fine tx b slot (Ok d) st =
      let mid = event.set_begun tx (record b { formed = event.formed_in slot d }) st in
      fine_from s st mid (event.called s b.client (Ok d) mid) (set_still tx _ st) (called_fine b.client (Ok d) mid)
  prepared_fine tx b slot (Err f) st = tt

  prepares_fine : (tx : ℕ) (b : BegunValue) (st : State) → Fine s st (event.prepares_at s tx b st)
  prepares_fine tx b st = fine_opt b.slot (λ slot. event.prepares_own s tx b slot st) st _ own (by (event.prepare_fault s b st))
    where
      own : (slot : ℕ) → Fine s st (event.prepares_own s tx b slot st)
      own slot = fine_opt (client_at st b.client) _ st (Ok st)
          (λ c. prepared_fine tx b slot (call_prepare (client_self s b.client) c slot) st) (grows_same s st)

      by : (o : Option WorldFault) → Fine s st (unless_refused o (event.prepares_lie s tx b st))
      by None =
          let t = built b.time b.client b.reads b.writes in
          let words = TransactionWords (id t) in
          let f : FormedValue = record { transaction = t; signature = faulty_signature s st (Client b.client) words } in
          let mid = event.set_begun tx (record b { formed = Some f }) (after_lie st (Client b.client) words) in
          fine_from s st mid (event.prepares_lie s tx b st) (still s st mid refl refl refl)
          (send_fine (Client b.client) [] (to_involved s.cluster t (St1 (record { transaction = t; signature = f.signature }))) mid)
      by (Some e) = tt

  -- ---- faulty parties

  lies_fine : (p : Party) (lie : LieValue) (st : State) → Fine s st (lies s p lie st)
  lies_fine p lie st =
      let mid = after_lie st p lie.words in
      fine_if (has_left s st p) st (enter s (mail_of p lie.envelope ∷ []) mid) _
      (fine_from s st mid (enter s (mail_of p lie.envelope ∷ []) mid) (still s st mid refl refl refl)
      (enter_fine (mail_of p lie.envelope ∷ []) mid)) tt

  -- ---- messages

  in_set : (ps : List Posted) (n : ℕ) (p q x : Posted) → slice_get ps n ≡ Some p → x.frame ≡ p.frame → Contains (slice_set ps n x) q →
      (r : Posted) × Contains ps r × (r.frame ≡ q.frame)
  in_set [] n p q x at same h = absurd cc
  in_set (y ∷ ps) zero p q x at same h = elim (in_cases x ps q h) [
    | inl is ↦
        let here : y ≡ p = cc in (
          y,
          in_head y ps,
          ap (λ (z : Posted). z.frame) here ∙ sym same ∙ ap (λ (z : Posted). z.frame) is,
        )
    | inr more ↦ (q, in_tail y ps q more, refl)
  ]
  in_set (y ∷ ps) (suc n) p q x at same h =
      elim (in_cases y (slice_set ps n x) q h) [
        | inl is ↦ (y, in_head y ps, ap (λ (z : Posted). z.frame) is)
        | inr more ↦
            let found = in_set ps n p q x at same more in
            (found.0, in_tail y ps found.0 found.1, found.2)
      ]

  pub marked_grows : (message : ℕ) (fate : Fate) (p : Posted) (st : State) → posted_at st message ≡ Some p →
      Grows s st (marked (message - 1) fate p st)
  marked_grows message fate p st at = record {
    says = λ x words signature h. h;
    texts = λ t h. h;
    certified = λ x h. h;
    pool = λ q h m r. inl (in_set st.pool (message - 1) p q (record p { fate = fate }) (here (nat_le 1 message) at) refl h);
  }
    where
      here : (b : Bool) → cond b (slice_get st.pool (message - 1)) None ≡ Some p → slice_get st.pool (message - 1) ≡ Some p
      here true h = h
      here false h = absurd cc

  at_message_fine : (message : ℕ) (what : Posted → State → Result State WorldFault) (st : State) →
      ((p : Posted) → posted_at st message ≡ Some p → Fine s st (what p st)) → Fine s st (event.at_message message what st)
  at_message_fine message what st h = by (posted_at st message) refl
    where
      by : (o : Option Posted) → posted_at st message ≡ o → Fine s st (option_map_or (λ p. what p st) o (Ok st))
      by None at = grows_same s st
      by (Some p) at = h p at

  ticks_still : (moment : ℕ) (o : Option Standing) (st : State) → Grows s st (event.ticks moment o st)
  ticks_still moment None st = grows_same s st
  ticks_still moment (Some x) st = still s st (event.ticks moment (Some x) st) refl refl refl

  -- ---- every event

  happens_fine : (e : EventValue) (st : State) → Fine s st (happens s e st)
  happens_fine (event.Begin client time) st = begins_fine client time st
  happens_fine (event.Read tx key) st =
      at_tx_fine tx (event.reads_at s key) st (λ b. fine_opt b.slot _ st (Ok st)
      (λ slot. by_client_fine b.client (λ c. call_read (client_self s b.client) c slot key) st) (grows_same s st))
  happens_fine (event.Write tx w) st = at_tx_fine tx (event.writes_at s tx w) st (λ b. writes_fine tx w b st)
  happens_fine (event.Claim tx key None) st =
      at_tx_fine tx (event.claims_at tx key (Some genesis)) st (λ b. claims_fine tx key (Some genesis) b st)
  happens_fine (event.Claim tx key (Some writer)) st =
      at_tx_fine tx (event.claims_at tx key (event.formed_version st writer)) st
      (λ b. claims_fine tx key (event.formed_version st writer) b st)
  happens_fine (event.Prepare tx) st = at_tx_fine tx (event.prepares_at s tx) st (λ b. prepares_fine tx b st)
  happens_fine (event.Settle tx client) st =
      at_formed_fine tx (event.settles_at s client) st
      (λ f. by_client_fine client (λ c. event.held_call (slot_of_id c (id f.transaction)) (call_settle (client_self s client) c)) st)
  happens_fine (event.Recover tx client) st =
      at_formed_fine tx (event.recovers_at s client) st
      (λ f. by_client_fine client (λ c. call_recover (client_self s client) c f.transaction f.signature) st)
  happens_fine (event.Invoke tx client) st =
      at_formed_fine tx (event.invokes_at s client) st
      (λ f. by_client_fine client (λ c. event.held_call (slot_of_id c (id f.transaction)) (call_invoke (client_self s client) c)) st)
  happens_fine (event.Deliver message given) st =
      at_message_fine message (λ p st. parts.hand s message p.from p.to given (marked (message - 1) Delivered p st)) st (λ p at.
      let mid = marked (message - 1) Delivered p st in
      fine_from s st mid (parts.hand s message p.from p.to given mid) (marked_grows message Delivered p st at)
      (hand_fine message p.from p.to given mid))
  happens_fine (event.Lose message) st =
      at_message_fine message (λ p st. Ok (marked (message - 1) (lost p.fate) p st)) st (λ p at. marked_grows message (lost p.fate) p st at)
  happens_fine (event.Divert message to given) st =
      at_message_fine message (λ p st. parts.hand s message p.from to given st) st (λ p at. hand_fine message p.from to given st)
  happens_fine (event.Clock shard r moment) st = ticks_still moment (standing st shard r) st
  happens_fine (event.Vote shard r tx d client) st =
      at_formed_fine tx (λ f st. lies s (Replica shard r) (faulty_vote s shard r f.transaction d client st) st) st
      (λ f. lies_fine (Replica shard r) (faulty_vote s shard r f.transaction d client st) st)
  happens_fine (event.Second tx d r) st =
      at_formed_fine tx (λ f st. enter s (faulty_second s f d r st) st) st (λ f. enter_fine (faulty_second s f d r st) st)
  happens_fine (event.Logged shard r tx d decided current client) st =
      at_formed_fine tx (λ f st. lies s (Replica shard r) (faulty_reply s shard r f.transaction d decided current client st) st) st
      (λ f. lies_fine (Replica shard r) (faulty_reply s shard r f.transaction d decided current client st) st)
  happens_fine (event.Elect shard r tx d view) st =
      at_formed_fine tx (λ f st. lies s (Replica shard r) (faulty_word s shard r f.transaction d view st) st) st
      (λ f. lies_fine (Replica shard r) (faulty_word s shard r f.transaction d view st) st)
  happens_fine (event.Decide shard r tx d view to) st =
      at_formed_fine tx (λ f st. lies s (Replica shard r) (faulty_proposal s shard r f.transaction d view to st) st) st
      (λ f. lies_fine (Replica shard r) (faulty_proposal s shard r f.transaction d view to st) st)
  happens_fine (event.Raw from to frame) st = enter_fine (record { from = from; to = to; frame = frame } ∷ []) st
  happens_fine (event.Show frame) st = see_fine s frame st

  -- ---- the run

  abbrev Runs : State → Result State Broken → Type 0
  Runs st (Ok after) = Grows s st after
  Runs st (Err b) = ⊤

  kept_runs : (st : State) (r : Result State WorldFault) → Fine s st r → Runs st (kept st r)
  kept_runs st (Ok after) h = h
  kept_runs st (Err (fault.Broken b)) h = tt
  kept_runs st (Err (fault.PoolFull messages bytes)) h = grows_same s st
  kept_runs st (Err (fault.Call f)) h = grows_same s st
  kept_runs st (Err (fault.Exhausted party)) h = grows_same s st

  runs_then : (st : State) (r : Result State Broken) (f : State → Result State Broken) → Runs st r →
      ((next : State) → Runs next (f next)) → Runs st (r >>= f)
  runs_then st (Ok next) f g k = by (f next) (k next)
    where
      by : (r : Result State Broken) → Runs next r → Runs st r
      by (Ok after) h = grows_then s st next after g h
      by (Err b) h = tt
  runs_then st (Err b) f g k = tt

  run_runs : (events : List EventValue) (st : State) → Runs st (run s events st)
  run_runs [] st = grows_same s st
  run_runs (e ∷ events) st =
      runs_then st (kept st (happens s e st)) (run s events) (kept_runs st (happens s e st) (happens_fine e st)) (run_runs events)

  grows_run : (events : List EventValue) (st after : State) → run s events st ≡ Ok after → Grows s st after
  grows_run events st after is = subst (Runs st) is (run_runs events st)

-- ---- a pool that was seen

pub pool_seen : (s : Setup) (st next : State) → Grows s st next → PoolIsSeen s st → PoolIsSeen s next
pool_seen s st next g h p i m r = elim (g.pool p i m r) [
  | inl there ↦ stays_seen s st next m g (h there.0 there.1 m (ap (read_frame s) there.2 ∙ r))
  | inr seen ↦ seen
]

pub posted_are_seen : PostedAreSeen
posted_are_seen s events st is = pool_seen s (start s) st (grows_run s events (start s) st is) (λ p h. absurd (in_none p h))

pub seen_stays : SeenStays
seen_stays s events st after is m seen = stays_seen s st after m (grows_run s events st after is) seen
