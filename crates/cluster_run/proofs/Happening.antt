-- Each event keeps what holds besides the invariant.
use Rattle.node_steps.specs.Refusing.{unless_refused}
use Rattle.std.proofs.Common.{◌≡◌, ℕ, Bool, true, false, cond, List, [], ◌∷◌, ◌++◌, Option, Some, None, refl, sym, ap, subst, ◌∙◌, inr}
use Rattle.std.specs.Prelude.{Contains, Result, Ok, Err, slice_get, slice_set, ◌<◌, ◌^◌, option_and_then, ◌-◌}
use Rattle.std.specs.Option.{option_map_or}
use Rattle.basil_types.specs.declared.party.Party.{Party}
use Rattle.basil_types.specs.declared.party.Party.TheVariants.{Replica, Client}
use Rattle.basil_types.specs.declared.version.Version.{Version}
use Rattle.basil_types.specs.declared.transaction.parts.WritePart.{WritePart}
use Rattle.basil_types.specs.Transaction.{id}
use Rattle.basil_types.specs.Version.{genesis}
use Rattle.client_steps.specs.declared.fault.CallFault.TheVariants as call
use Rattle.client_steps.specs.declared.fault.CallFault.{CallFault}
use Rattle.client_core.specs.Calls.{call_begin, call_read, call_write, formed, call_prepare, call_settle, call_recover, call_invoke}
use Rattle.client_core.specs.Clients.{ClientValue, ClientDone, SlotValue}
use Rattle.client_core.specs.Slots.{slot_of_id}
use Rattle.replica_core.specs.Replicas.{BookValue}
use Rattle.cluster_run.specs.declared.fault.WorldFault.{WorldFault}
use Rattle.cluster_run.specs.declared.fault.WorldFault.TheVariants as fault
use Rattle.cluster_run.specs.Answering.{AllWords}
use Rattle.cluster_run.specs.Events as event
use Rattle.cluster_run.specs.Events.{EventValue, called, at_client, by_client, begun_by, with_begun, begins_in, begins, set_begun, at_tx}
use Rattle.cluster_run.specs.Events.{at_formed, reads_at, unless_formed, writes_at, formed_version, claims_at, formed_in, prepared_by}
use Rattle.cluster_run.specs.Events.{prepares_own, prepare_fault, prepares_lie, prepares_at, held_call, settles_at, invokes_at, recovers_at}
use Rattle.cluster_run.specs.Events.{marked, at_message, lost, ticks, happens}
use Rattle.cluster_run.specs.Faulty.{LieValue, has_left, after_lie, lies, faulty_vote, faulty_reply, faulty_word, faulty_proposal}
use Rattle.cluster_run.specs.Faulty.{faulty_second}
use Rattle.cluster_run.specs.Parts.{enter, mail_of, hand, client_self}
use Rattle.basil_types.specs.Texts.{IsBytes}
use Rattle.cluster_run.specs.Safety.{IsEvent}
use Rattle.cluster_run.specs.States.{posted_at, Setup, IsSetup, is_faulty, Posted, Delivered, BegunValue, FormedValue, Standing, standing}
use Rattle.cluster_run.specs.States.{put_standing, client_at, State}
use Rattle.cluster_run.proofs.Handling.{found_at, at_parts}
use Rattle.cluster_run.proofs.Holding.{clients_go}
use Rattle.cluster_run.specs.Holding.{OfKind, IsHeld, Went}
use Rattle.cluster_run.proofs.Whole.{Whole, whole_more, IsTook, grows_self, whole_grows, whole_none, around}
use Rattle.cluster_run.proofs.Eventing.{ticked, same_book}
use Rattle.client_reads.specs.Laws.{RepliesExactly}
use Rattle.cluster_run.proofs.Parting.{Laws}
use Rattle.cluster_run.proofs.Parted.{see_keeps, enter_keeps, hand_keeps, client_did_keeps, stay_keeps}

-- of none
abbrev pub N : OfKind
N t = ⊥

whole_ticked : (s : Setup) (st : State) (x : Standing) (moment : ℕ) → Whole s N st → standing st x.shard x.index ≡ Some x →
    Whole s N (record st { replicas = put_standing (record x { moment = moment }) st.replicas })
whole_ticked s st x moment w here =
    let next : State = record st { replicas = put_standing (record x { moment = moment }) st.replicas } in
    whole_grows s N st next w (grows_self st next refl refl) (ticked s st x moment w.inv here)
    (λ a c. ap (λ (b : BookValue). b.entries) (same_book s st x moment w.inv here a c)) refl (λ n. refl)

-- what a correct client prepares is seen
abbrev pub PreparesSeen : Setup → Type 0
PreparesSeen s =
    (client : ℕ) (c : ClientValue) (place : ℕ) (d : ClientDone) (st t : State) → Whole s N st → client_at st client ≡ Some c →
    call_prepare (client_self s client) c place ≡ Ok d →
    (slot : SlotValue) → slice_get c.slots place ≡ Some slot → called s client (Ok d) st ≡ Ok t →
    Contains t.watch.texts (formed (client_self s client) slot)

module _ (law : Laws) (replies : RepliesExactly) (s : Setup) (ok : IsSetup s) (prepare_seen : PreparesSeen s) where
  opt_keeps : {A : Type 0} (o : Option A) (what : A → Result State WorldFault) (st t : State) → Whole s N st →
      ((a : A) → what a ≡ Ok t → Whole s N t) → option_map_or what o (Ok st) ≡ Ok t → Whole s N t
  opt_keeps None what st t inv f h = stay_keeps law replies s ok N st t inv (Ok st) refl h
  opt_keeps (Some a) what st t inv f h = f a h

  or_keeps : {A : Type 0} (o : Option A) (what : A → Result State WorldFault) (other : Result State WorldFault) (t : State) →
      ((a : A) → what a ≡ Ok t → Whole s N t) → (other ≡ Ok t → Whole s N t) → option_map_or what o other ≡ Ok t → Whole s N t
  or_keeps None what other t f g h = g h
  or_keeps (Some a) what other t f g h = f a h

  -- ---- calls

  abbrev Good : ℕ → State → ClientValue → ClientDone → Type 0
  Good client st c d = AllWords d.signed × Went (client_self s client) (IsTook s st) N c d

  called_keeps : (client : ℕ) (c : ClientValue) (r : Result ClientDone CallFault) (st t : State) → Whole s N st → client_at st client
      ≡ Some c → ((d : ClientDone) → IsHeld (client_self s client) (IsTook s st) c → r ≡ Ok d → Good client st c d) → called s client r st
      ≡ Ok t → Whole s N t
  called_keeps client c (Ok d) st t inv at f h =
      (let q = f d (inv.held client c at) refl in client_did_keeps law replies s ok N client c d st t inv at q.0 q.1 h)
  called_keeps client c (Err e) st t inv at f h = absurd cc

  at_client_keeps : (client : ℕ) (call : ClientValue → Result ClientDone CallFault) (o : Option ClientValue) (st t : State) → Whole s N st →
      client_at st client ≡ o → ((c : ClientValue) (d : ClientDone) → IsHeld (client_self s client) (IsTook s st) c → call c ≡ Ok d →
      Good client st c d) → at_client s client call o st ≡ Ok t → Whole s N t
  at_client_keeps client call None st t inv at f h = stay_keeps law replies s ok N st t inv (at_client s client call None st) refl h
  at_client_keeps client call (Some c) st t inv at f h = called_keeps client c (call c) st t inv at (f c) h

  by_client_keeps : (client : ℕ) (call : ClientValue → Result ClientDone CallFault) (st t : State) → Whole s N st →
      ((c : ClientValue) (d : ClientDone) → IsHeld (client_self s client) (IsTook s st) c → call c ≡ Ok d → Good client st c d) →
      by_client s client call st ≡ Ok t → Whole s N t
  by_client_keeps client call st t inv f h = at_client_keeps client call (client_at st client) st t inv refl f h

  with_keeps : (b : BegunValue) (st : State) → Whole s N st → Whole s N (with_begun b st)
  with_keeps b st inv = around s N st st.lied (st.begun ++ b ∷ []) st.pool st.refused inv

  set_keeps : (tx : ℕ) (b : BegunValue) (st : State) → Whole s N st → Whole s N (set_begun tx b st)
  set_keeps tx b st inv = around s N st st.lied (slice_set st.begun tx b) st.pool st.refused inv

  begins_by : (client time : ℕ) → time < 2 ^ 64 → (o : Option ClientValue) (st t : State) → Whole s N st → client_at st client ≡ o →
      begins_in s client time o st ≡ Ok t → Whole s N t
  begins_by client time small None st t inv at h = stay_keeps law replies s ok N st t inv (begins_in s client time None st) refl h
  begins_by client time small (Some c) st t inv at h =
      let next = with_begun (begun_by client time (Some (Rattle.std.specs.Prelude.length c.slots))) st in
      called_keeps client c (call_begin c time) next t (with_keeps _ st inv) at
      (λ d k e. (
        law.clients_sign.at_begin c time d e,
        (clients_go (client_self s client) (IsTook s next) N).at_begin c time d small k e,
      )) h

  begins_keeps : (client time : ℕ) → time < 2 ^ 64 → (st t : State) → Whole s N st → begins s client time st ≡ Ok t → Whole s N t
  begins_keeps client time small st t inv h = by (is_faulty s (Client client)) h
    where
      by : (b : Bool) → cond b (Ok (with_begun (begun_by client time None) st)) (begins_in s client time (client_at st client) st) ≡ Ok t →
          Whole s N t
      by true h =
          stay_keeps law replies s ok N (with_begun (begun_by client time None) st) t (with_keeps _ st inv)
          (Ok (with_begun (begun_by client time None) st)) refl h
      by false h = begins_by client time small (client_at st client) st t inv refl h

  reads_keeps : (key : List ℕ) → IsBytes key → (b : BegunValue) (st t : State) → Whole s N st → reads_at s key b st ≡ Ok t → Whole s N t
  reads_keeps key bytes b st t inv h =
      opt_keeps b.slot (λ slot. by_client s b.client (λ c. call_read (client_self s b.client) c slot key) st) st t inv
      (λ slot k. by_client_keeps b.client (λ c. call_read (client_self s b.client) c slot key) st t inv
      (λ c d i e. (
        law.clients_sign.at_read (client_self s b.client) c slot key d e,
        (clients_go (client_self s b.client) (IsTook s st) N).at_read c slot key d bytes i e,
      )) k) h

  formed_keeps : (b : BegunValue) (fits : Bool) (answer : Result State WorldFault) (t : State) → (answer ≡ Ok t → Whole s N t) →
      unless_formed b fits answer ≡ Ok t → Whole s N t
  formed_keeps b fits answer t f h = by (Rattle.std.specs.Prelude.is_some b.formed) fits h
    where
      by : (x y : Bool) → cond x (Err (fault.Call call.NotOpen)) (cond y answer (Err (fault.Call call.SizeOut))) ≡ Ok t → Whole s N t
      by true y h = absurd cc
      by false true h = f h
      by false false h = absurd cc

  writes_keeps : (tx : ℕ) (w : WritePart) → IsBytes w.key → IsBytes w.value → (b : BegunValue) (st t : State) → Whole s N st →
      writes_at s tx w b st ≡ Ok t → Whole s N t
  writes_keeps tx w kb vb b st t inv h =
      let next = set_begun tx (record b { writes = Rattle.client_core.specs.Slots.put_write w b.writes }) st in
      or_keeps b.slot (λ slot. by_client s b.client (λ c. call_write c slot w) st) (unless_formed b _ (Ok next)) t
      (λ slot k. by_client_keeps b.client (λ c. call_write c slot w) st t inv
      (λ c d i e. (
        law.clients_sign.at_write c slot w d e,
        (clients_go (client_self s b.client) (IsTook s st) N).at_write c slot w d kb vb i e,
      )) k)
      (λ k. formed_keeps b _ (Ok next) t (λ j. stay_keeps law replies s ok N next t (set_keeps tx _ st inv) (Ok next) refl j) k) h

  claims_keeps : (tx : ℕ) (key : List ℕ) (v : Option Version) (b : BegunValue) (st t : State) → Whole s N st → claims_at tx key v b st
      ≡ Ok t → Whole s N t
  claims_keeps tx key None b st t inv h = stay_keeps law replies s ok N st t inv (claims_at tx key None b st) refl h
  claims_keeps tx key (Some v) b st t inv h =
      let next =
      set_begun tx (record b {
        reads = Rattle.cluster_run.specs.Events.put_claim
            (record { key = key; version = v; dependency = false }) b.reads;
      }) st in
      formed_keeps b _ (Ok next) t (λ j. stay_keeps law replies s ok N next t (set_keeps tx _ st inv) (Ok next) refl j) h

  -- ---- prepare

  prepared_keeps : (tx : ℕ) (b : BegunValue) (slot : ℕ) (c : ClientValue) (r : Result ClientDone CallFault) (st t : State) → Whole s N st →
      client_at st b.client ≡ Some c → call_prepare (client_self s b.client) c slot ≡ r → prepared_by s tx b slot r st ≡ Ok t → Whole s N t
  prepared_keeps tx b slot c (Ok d) st t inv at e h =
      let next = set_begun tx (record b { formed = formed_in slot d }) st in
      let me = client_self s b.client in
      let E : OfKind = λ u. (z : SlotValue) × (slice_get c.slots slot ≡ Some z) × (u ≡ formed me z) in
      let k = set_keeps tx _ st inv in
      whole_more s E N t (λ u q. inr (subst (Contains t.watch.texts) (sym q.2) (prepare_seen b.client c slot d next t k at e q.0 q.1 h)))
      (client_did_keeps law replies s ok E b.client c d next t (whole_more s N E next (λ u q. absurd q) k) at
      (law.clients_sign.at_prepare me c slot d e)
      ((clients_go me (IsTook s next) E).at_prepare c slot d (k.held b.client c at) (λ z q. (z, q, refl)) e) h)
  prepared_keeps tx b slot c (Err e) st t inv at f h = absurd cc

  own_keeps : (tx : ℕ) (b : BegunValue) (slot : ℕ) (o : Option ClientValue) (st t : State) → Whole s N st → client_at st b.client ≡ o →
      option_map_or (λ c. prepared_by s tx b slot (call_prepare (client_self s b.client) c slot) st) o (Ok st) ≡ Ok t → Whole s N t
  own_keeps tx b slot None st t inv at h = stay_keeps law replies s ok N st t inv (Ok st) refl h
  own_keeps tx b slot (Some c) st t inv at h = prepared_keeps tx b slot c (call_prepare (client_self s b.client) c slot) st t inv at refl h

  lie_keeps : (tx : ℕ) (b : BegunValue) (st t : State) → Whole s N st → prepares_lie s tx b st ≡ Ok t → Whole s N t
  lie_keeps tx b st t inv h =
      enter_keeps law replies s ok N _ _ t (whole_none s N _ (Client b.client)
      (around s N st (st.lied ++ record { party = Client b.client; words = _ } ∷ []) _ st.pool st.refused inv)) h

  fault_keeps : (f : Option WorldFault) (answer : Result State WorldFault) (t : State) → (answer ≡ Ok t → Whole s N t) →
      unless_refused f answer ≡ Ok t → Whole s N t
  fault_keeps None answer t g h = g h
  fault_keeps (Some e) answer t g h = absurd cc

  prepares_keeps : (tx : ℕ) (b : BegunValue) (st t : State) → Whole s N st → prepares_at s tx b st ≡ Ok t → Whole s N t
  prepares_keeps tx b st t inv h =
      or_keeps b.slot (λ slot. prepares_own s tx b slot st) (unless_refused (prepare_fault s b st) (prepares_lie s tx b st)) t
      (λ slot k. own_keeps tx b slot (client_at st b.client) st t inv refl k)
      (λ k. fault_keeps (prepare_fault s b st) (prepares_lie s tx b st) t (lie_keeps tx b st t inv) k) h

  -- ---- settle, recover, invoke

  held_good : (client : ℕ) (st : State) (c : ClientValue) (o : Option ℕ) (call : ℕ → Result ClientDone CallFault) (d : ClientDone) →
      ((slot : ℕ) → call slot ≡ Ok d → Good client st c d) → held_call o call ≡ Ok d → Good client st c d
  held_good client st c None call d f h = absurd cc
  held_good client st c (Some slot) call d f h = f slot h

  settles_keeps : (client : ℕ) (f : FormedValue) (st t : State) → Whole s N st → settles_at s client f st ≡ Ok t → Whole s N t
  settles_keeps client f st t inv h =
      by_client_keeps client (λ c. held_call (slot_of_id c (id f.transaction)) (call_settle (client_self s client) c)) st t inv
      (λ c d i e. held_good client st c (slot_of_id c (id f.transaction)) (call_settle (client_self s client) c) d
      (λ slot k. (
        law.clients_sign.at_settle (client_self s client) c slot d k,
        (clients_go (client_self s client) (IsTook s st) N).at_settle c slot d i k,
      )) e) h

  invokes_keeps : (client : ℕ) (f : FormedValue) (st t : State) → Whole s N st → invokes_at s client f st ≡ Ok t → Whole s N t
  invokes_keeps client f st t inv h =
      by_client_keeps client (λ c. held_call (slot_of_id c (id f.transaction)) (call_invoke (client_self s client) c)) st t inv
      (λ c d i e. held_good client st c (slot_of_id c (id f.transaction)) (call_invoke (client_self s client) c) d
      (λ slot k. (
        law.clients_sign.at_invoke (client_self s client) c slot d k,
        (clients_go (client_self s client) (IsTook s st) N).at_invoke c slot d i k,
      )) e) h

  recovers_keeps : (client : ℕ) (f : FormedValue) (st t : State) → Whole s N st → recovers_at s client f st ≡ Ok t → Whole s N t
  recovers_keeps client f st t inv h =
      by_client_keeps client (λ c. call_recover (client_self s client) c f.transaction f.signature) st t inv
      (λ c d i e. (
        law.clients_sign.at_recover (client_self s client) c f.transaction f.signature d e,
        (clients_go (client_self s client) (IsTook s st) N).at_recover c f.transaction f.signature d i e,
      )) h

  -- ---- faulty parties

  lies_keeps : (p : Party) (lie : LieValue) (st t : State) → Whole s N st → lies s p lie st ≡ Ok t → Whole s N t
  lies_keeps p lie st t inv h = by (has_left s st p) h
    where
      by : (b : Bool) → cond b (enter s (mail_of p lie.envelope ∷ []) (after_lie st p lie.words)) (Err (fault.Exhausted p)) ≡ Ok t →
          Whole s N t
      by true h =
          enter_keeps law replies s ok N (mail_of p lie.envelope ∷ []) (after_lie st p lie.words) t
          (around s N st (st.lied ++ record { party = p; words = lie.words } ∷ []) st.begun st.pool st.refused inv) h
      by false h = absurd cc

  ticks_keeps : (moment shard r : ℕ) (o : Option Standing) (st : State) → standing st shard r ≡ o → Whole s N st →
      Whole s N (ticks moment o st)
  ticks_keeps moment shard r None st e inv = inv
  ticks_keeps moment shard r (Some x) st e inv =
      let place = at_parts shard r x (found_at shard r st.replicas x e) in
      whole_ticked s st x moment inv (ap (λ (n : ℕ). standing st n x.index) place.0 ∙ ap (λ (n : ℕ). standing st shard n) place.1 ∙ e)

  pool_keeps : (st : State) (o : List Posted) → Whole s N st → Whole s N (record st { pool = o })
  pool_keeps st o inv = around s N st st.lied st.begun o st.refused inv

  -- ---- one event

  tx_keeps : (tx : ℕ) (what : BegunValue → State → Result State WorldFault) (st t : State) → Whole s N st →
      ((b : BegunValue) → what b st ≡ Ok t → Whole s N t) → at_tx tx what st ≡ Ok t → Whole s N t
  tx_keeps tx what st t inv f h = opt_keeps (slice_get st.begun tx) (λ b. what b st) st t inv f h

  text_keeps : (tx : ℕ) (what : FormedValue → State → Result State WorldFault) (st t : State) → Whole s N st →
      ((f : FormedValue) → what f st ≡ Ok t → Whole s N t) → at_formed tx what st ≡ Ok t → Whole s N t
  text_keeps tx what st t inv f h =
      opt_keeps (option_and_then (λ (b : BegunValue). b.formed) (slice_get st.begun tx)) (λ b. what b st) st t inv f h

  message_keeps : (message : ℕ) (what : Posted → State → Result State WorldFault) (st t : State) → Whole s N st →
      ((p : Posted) → what p st ≡ Ok t → Whole s N t) → at_message message what st ≡ Ok t → Whole s N t
  message_keeps message what st t inv f h = opt_keeps (posted_at st message) (λ p. what p st) st t inv f h

  pub happens_keeps : (e : EventValue) → IsEvent e → (st t : State) → Whole s N st → happens s e st ≡ Ok t → Whole s N t
  happens_keeps (event.Begin client time) sized st t inv h = begins_keeps client time sized st t inv h
  happens_keeps (event.Read tx key) sized st t inv h = tx_keeps tx (reads_at s key) st t inv (λ b k. reads_keeps key sized b st t inv k) h
  happens_keeps (event.Write tx w) sized st t inv h =
      tx_keeps tx (writes_at s tx w) st t inv (λ b k. writes_keeps tx w sized.0 sized.1 b st t inv k) h
  happens_keeps (event.Claim tx key None) sized st t inv h =
      tx_keeps tx (claims_at tx key (Some genesis)) st t inv (λ b k. claims_keeps tx key (Some genesis) b st t inv k) h
  happens_keeps (event.Claim tx key (Some writer)) sized st t inv h =
      tx_keeps tx (claims_at tx key (formed_version st writer)) st t inv
      (λ b k. claims_keeps tx key (formed_version st writer) b st t inv k) h
  happens_keeps (event.Prepare tx) sized st t inv h = tx_keeps tx (prepares_at s tx) st t inv (λ b k. prepares_keeps tx b st t inv k) h
  happens_keeps (event.Settle tx client) sized st t inv h =
      text_keeps tx (settles_at s client) st t inv (λ f k. settles_keeps client f st t inv k) h
  happens_keeps (event.Recover tx client) sized st t inv h =
      text_keeps tx (recovers_at s client) st t inv (λ f k. recovers_keeps client f st t inv k) h
  happens_keeps (event.Invoke tx client) sized st t inv h =
      text_keeps tx (invokes_at s client) st t inv (λ f k. invokes_keeps client f st t inv k) h
  happens_keeps (event.Deliver message given) sized st t inv h =
      message_keeps message (λ p st. hand s message p.from p.to given (marked (message - 1) Delivered p st)) st t inv
      (λ p k. hand_keeps law replies s ok N message p.from p.to given (marked (message - 1) Delivered p st) t
      (pool_keeps st (slice_set st.pool (message - 1) (record p { fate = Delivered })) inv) k) h
  happens_keeps (event.Lose message) sized st t inv h =
      message_keeps message (λ p st. Ok (marked (message - 1) (lost p.fate) p st)) st t inv
      (λ p k. stay_keeps law replies s ok N (marked (message - 1) (lost p.fate) p st) t
      (pool_keeps st (slice_set st.pool (message - 1) (record p { fate = lost p.fate })) inv)
      (Ok (marked (message - 1) (lost p.fate) p st)) refl k) h
  happens_keeps (event.Divert message to given) sized st t inv h =
      message_keeps message (λ p st. hand s message p.from to given st) st t inv
      (λ p k. hand_keeps law replies s ok N message p.from to given st t inv k) h
  happens_keeps (event.Clock shard r moment) sized st t inv h =
      stay_keeps law replies s ok N (ticks moment (standing st shard r) st) t (ticks_keeps moment shard r (standing st shard r) st refl inv)
      (Ok (ticks moment (standing st shard r) st)) refl h
  happens_keeps (event.Vote shard r tx d client) sized st t inv h =
      text_keeps tx (λ f st. lies s (Replica shard r) (faulty_vote s shard r f.transaction d client st) st) st t inv
      (λ f k. lies_keeps (Replica shard r) (faulty_vote s shard r f.transaction d client st) st t inv k) h
  happens_keeps (event.Second tx d r) sized st t inv h =
      text_keeps tx (λ f st. enter s (faulty_second s f d r st) st) st t inv
      (λ f k. enter_keeps law replies s ok N (faulty_second s f d r st) st t inv k) h
  happens_keeps (event.Logged shard r tx d decided current client) sized st t inv h =
      text_keeps tx (λ f st. lies s (Replica shard r) (faulty_reply s shard r f.transaction d decided current client st) st) st t inv
      (λ f k. lies_keeps (Replica shard r) (faulty_reply s shard r f.transaction d decided current client st) st t inv k) h
  happens_keeps (event.Elect shard r tx d view) sized st t inv h =
      text_keeps tx (λ f st. lies s (Replica shard r) (faulty_word s shard r f.transaction d view st) st) st t inv
      (λ f k. lies_keeps (Replica shard r) (faulty_word s shard r f.transaction d view st) st t inv k) h
  happens_keeps (event.Decide shard r tx d view to) sized st t inv h =
      text_keeps tx (λ f st. lies s (Replica shard r) (faulty_proposal s shard r f.transaction d view to st) st) st t inv
      (λ f k. lies_keeps (Replica shard r) (faulty_proposal s shard r f.transaction d view to st) st t inv k) h
  happens_keeps (event.Raw from to frame) sized st t inv h =
      enter_keeps law replies s ok N (record { from = from; to = to; frame = frame } ∷ []) st t inv h
  happens_keeps (event.Show frame) sized st t inv h = (see_keeps law replies s ok N frame st t inv h).whole
