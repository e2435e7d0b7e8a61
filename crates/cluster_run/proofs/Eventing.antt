-- Each event keeps the invariant.
use Rattle.node_steps.specs.Refusing.{unless_refused}
use Rattle.std.proofs.Common.{◌≡◌, ℕ, Bool, true, false, cond, List, [], ◌∷◌, ◌++◌, Option, Some, None, refl, sym, ap, subst, ◌∙◌, inl, inr}
use Rattle.std.proofs.Common.{arith}
use Rattle.std.specs.Prelude.{Result, Ok, Err, slice_get, slice_set, option_and_then, ◌-◌}
use Rattle.std.specs.Option.{option_map_or}
use Rattle.std.proofs.lemmas.Bool.{cases_Bool}
use Rattle.basil_types.specs.declared.party.Party.{Party}
use Rattle.basil_types.specs.declared.party.Party.TheVariants.{Replica, Client}
use Rattle.basil_types.specs.declared.version.Version.{Version}
use Rattle.basil_types.specs.declared.transaction.parts.WritePart.{WritePart}
use Rattle.basil_types.specs.Transaction.{id}
use Rattle.basil_types.specs.Version.{genesis}
use Rattle.client_steps.specs.declared.fault.CallFault.TheVariants as call
use Rattle.client_steps.specs.declared.fault.CallFault.{CallFault}
use Rattle.client_core.specs.Calls.{call_begin, call_read, call_write, call_prepare, call_settle, call_recover, call_invoke}
use Rattle.client_core.specs.Clients.{ClientValue, ClientDone}
use Rattle.client_core.specs.Slots.{slot_of_id}
use Rattle.agreement_laws.specs.Invariants.{Invariant}
use Rattle.cluster_run.specs.declared.fault.WorldFault.{WorldFault}
use Rattle.cluster_run.specs.declared.fault.WorldFault.TheVariants as fault
use Rattle.cluster_run.specs.Acting.{node}
use Rattle.cluster_run.specs.Answering.{AllWords, IsInOrder, IsSized}
use Rattle.cluster_run.specs.Events as event
use Rattle.cluster_run.specs.Events.{EventValue, called, at_client, by_client, begun_by, with_begun, begins_in, begins, set_begun, at_tx}
use Rattle.cluster_run.specs.Events.{at_formed, reads_at, unless_formed, writes_at, formed_version, claims_at, prepared_by}
use Rattle.cluster_run.specs.Events.{prepares_own, prepare_fault, prepares_lie, prepares_at, held_call, settles_at, invokes_at, recovers_at}
use Rattle.cluster_run.specs.Events.{marked, at_message, lost, ticks, happens}
use Rattle.cluster_run.specs.Faulty.{LieValue, has_left, after_lie, lies, faulty_vote, faulty_reply, faulty_word, faulty_proposal}
use Rattle.cluster_run.specs.Faulty.{faulty_second}
use Rattle.cluster_run.specs.Parts.{enter, mail_of, hand, client_self}
use Rattle.cluster_run.specs.States.{posted_at, Setup, IsSetup, is_faulty, Posted, Delivered, BegunValue, FormedValue, Standing, standing}
use Rattle.cluster_run.specs.States.{is_at, put_standing, client_at, State}
use Rattle.cluster_run.proofs.Handling.{put_same, put_other, found_at, at_parts}
use Rattle.cluster_run.proofs.Running.{elsewhere, signed_by, book_of, book_at, aborted_in, abs, scene, set, Inv}
use Rattle.cluster_run.proofs.Parting.{Laws, client_signs, see_keeps, enter_keeps, hand_keeps, client_did_keeps, stay_keeps}

no_words : AllWords []
no_words w i = absurd (omega (arith, i.1))

-- ---- a replica's moment

module _ (s : Setup) (st : State) (x : Standing) (moment : ℕ) (inv : Inv s st) (here : standing st x.shard x.index ≡ Some x) where
  abbrev X : Standing
  X = record x { moment = moment }

  abbrev St : State
  St = record st { replicas = put_standing X st.replicas }

  pub same_book : (a c : ℕ) → book_at St a c ≡ book_at st a c
  same_book a c = elim (cases_Bool (is_at a c X)) [
    | inl i ↦
        let place = at_parts a c X i in
        let found : standing st a c ≡ Some x =
        ap (λ (n : ℕ). standing st n c) (sym place.0) ∙ ap (λ (n : ℕ). standing st x.shard n) (sym place.1) ∙ here in
        ap book_of (put_same a c X x st.replicas i found) ∙ sym (ap book_of found)
    | inr n ↦ ap book_of (put_other a c X st.replicas n)
  ]

  same_abs : abs st ≡ abs St
  same_abs = λ i. record { nodes = λ a c. node (signed_by st.watch.signed (Replica a c)) (sym (same_book a c) i); aborted = aborted_in st }

  pub ticked : Inv s St
  ticked = record {
    faulty = inv.faulty;
    words = inv.words;
    spelled = inv.spelled;
    unique = inv.unique;
    proofs = inv.proofs;
    sized = λ a c. subst IsSized (sym (same_book a c)) (inv.sized a c);
    fine = λ tx f.
        let g = inv.fine tx f in
        record {
          invariant = subst (Invariant (set s tx)) same_abs g.invariant;
          order = λ a c n. subst (IsInOrder (scene s tx St) a) (sym (same_book a c))
              (let o = g.order a c n in record {
                looked = o.looked;
                distinct = o.distinct;
                apart = o.apart;
                kept = λ k i. let q = o.kept k i
                    in record { below = q.below; said = q.said };
              });
        };
  }

module _ (law : Laws) (s : Setup) (ok : IsSetup s) where
  opt_keeps : {A : Type 0} (o : Option A) (what : A → Result State WorldFault) (st t : State) → Inv s st →
      ((a : A) → what a ≡ Ok t → Inv s t) → option_map_or what o (Ok st) ≡ Ok t → Inv s t
  opt_keeps None what st t inv f h = stay_keeps law s ok st t inv (Ok st) refl h
  opt_keeps (Some a) what st t inv f h = f a h

  or_keeps : {A : Type 0} (o : Option A) (what : A → Result State WorldFault) (other : Result State WorldFault) (t : State) →
      ((a : A) → what a ≡ Ok t → Inv s t) → (other ≡ Ok t → Inv s t) → option_map_or what o other ≡ Ok t → Inv s t
  or_keeps None what other t f g h = g h
  or_keeps (Some a) what other t f g h = f a h

  -- ---- calls

  called_keeps : (client : ℕ) (r : Result ClientDone CallFault) (st t : State) → Inv s st →
      ((d : ClientDone) → r ≡ Ok d → AllWords d.signed) → called s client r st ≡ Ok t → Inv s t
  called_keeps client (Ok d) st t inv f h = client_did_keeps law s ok 0 client d _ st t inv (f d refl) h
  called_keeps client (Err e) st t inv f h = absurd cc

  at_client_keeps : (client : ℕ) (call : ClientValue → Result ClientDone CallFault) (o : Option ClientValue) (st t : State) → Inv s st →
      ((c : ClientValue) (d : ClientDone) → call c ≡ Ok d → AllWords d.signed) → at_client s client call o st ≡ Ok t → Inv s t
  at_client_keeps client call None st t inv f h = stay_keeps law s ok st t inv (at_client s client call None st) refl h
  at_client_keeps client call (Some c) st t inv f h = called_keeps client (call c) st t inv (f c) h

  by_client_keeps : (client : ℕ) (call : ClientValue → Result ClientDone CallFault) (st t : State) → Inv s st →
      ((c : ClientValue) (d : ClientDone) → call c ≡ Ok d → AllWords d.signed) → by_client s client call st ≡ Ok t → Inv s t
  by_client_keeps client call st t inv f h = at_client_keeps client call (client_at st client) st t inv f h

  with_keeps : (b : BegunValue) (st : State) → Inv s st → Inv s (with_begun b st)
  with_keeps b st inv = elsewhere s st st.clients st.lied (st.begun ++ b ∷ []) st.pool st.refused inv

  set_keeps : (tx : ℕ) (b : BegunValue) (st : State) → Inv s st → Inv s (set_begun tx b st)
  set_keeps tx b st inv = elsewhere s st st.clients st.lied (slice_set st.begun tx b) st.pool st.refused inv

  begins_by : (client time : ℕ) (o : Option ClientValue) (st t : State) → Inv s st → begins_in s client time o st ≡ Ok t → Inv s t
  begins_by client time None st t inv h = stay_keeps law s ok st t inv (begins_in s client time None st) refl h
  begins_by client time (Some c) st t inv h =
      called_keeps client (call_begin c time) _ t (with_keeps _ st inv) (λ d e. law.clients_sign.at_begin c time d e) h

  begins_keeps : (client time : ℕ) (st t : State) → Inv s st → begins s client time st ≡ Ok t → Inv s t
  begins_keeps client time st t inv h = by (is_faulty s (Client client)) h
    where
      by : (b : Bool) → cond b (Ok (with_begun (begun_by client time None) st)) (begins_in s client time (client_at st client) st) ≡ Ok t →
          Inv s t
      by true h =
          stay_keeps law s ok (with_begun (begun_by client time None) st) t (with_keeps _ st inv)
          (Ok (with_begun (begun_by client time None) st)) refl h
      by false h = begins_by client time (client_at st client) st t inv h

  reads_keeps : (key : List ℕ) (b : BegunValue) (st t : State) → Inv s st → reads_at s key b st ≡ Ok t → Inv s t
  reads_keeps key b st t inv h =
      opt_keeps b.slot (λ slot. by_client s b.client (λ c. call_read (client_self s b.client) c slot key) st) st t inv
      (λ slot k. by_client_keeps b.client (λ c. call_read (client_self s b.client) c slot key) st t inv
      (λ c d e. law.clients_sign.at_read (client_self s b.client) c slot key d e) k) h

  formed_keeps : (b : BegunValue) (fits : Bool) (answer : Result State WorldFault) (t : State) → (answer ≡ Ok t → Inv s t) →
      unless_formed b fits answer ≡ Ok t → Inv s t
  formed_keeps b fits answer t f h = by (Rattle.std.specs.Prelude.is_some b.formed) fits h
    where
      by : (x y : Bool) → cond x (Err (fault.Call call.NotOpen)) (cond y answer (Err (fault.Call call.SizeOut))) ≡ Ok t → Inv s t
      by true y h = absurd cc
      by false true h = f h
      by false false h = absurd cc

  writes_keeps : (tx : ℕ) (w : WritePart) (b : BegunValue) (st t : State) → Inv s st → writes_at s tx w b st ≡ Ok t → Inv s t
  writes_keeps tx w b st t inv h =
      let next = set_begun tx (record b { writes = Rattle.client_core.specs.Slots.put_write w b.writes }) st in
      or_keeps b.slot (λ slot. by_client s b.client (λ c. call_write c slot w) st) (unless_formed b _ (Ok next)) t
      (λ slot k. by_client_keeps b.client (λ c. call_write c slot w) st t inv (λ c d e. law.clients_sign.at_write c slot w d e) k)
      (λ k. formed_keeps b _ (Ok next) t (λ j. stay_keeps law s ok next t (set_keeps tx _ st inv) (Ok next) refl j) k) h

  claims_keeps : (tx : ℕ) (key : List ℕ) (v : Option Version) (b : BegunValue) (st t : State) → Inv s st → claims_at tx key v b st ≡ Ok t →
      Inv s t
  claims_keeps tx key None b st t inv h = stay_keeps law s ok st t inv (claims_at tx key None b st) refl h
  claims_keeps tx key (Some v) b st t inv h =
      let next =
      set_begun tx (record b {
        reads = Rattle.cluster_run.specs.Events.put_claim
            (record { key = key; version = v; dependency = false }) b.reads;
      }) st in
      formed_keeps b _ (Ok next) t (λ j. stay_keeps law s ok next t (set_keeps tx _ st inv) (Ok next) refl j) h

  -- ---- prepare

  prepared_keeps : (tx : ℕ) (b : BegunValue) (slot : ℕ) (r : Result ClientDone CallFault) (st t : State) → Inv s st →
      ((d : ClientDone) → r ≡ Ok d → AllWords d.signed) → prepared_by s tx b slot r st ≡ Ok t → Inv s t
  prepared_keeps tx b slot (Ok d) st t inv f h = called_keeps b.client (Ok d) _ t (set_keeps tx _ st inv) (λ e i. f e i) h
  prepared_keeps tx b slot (Err e) st t inv f h = absurd cc

  lie_keeps : (tx : ℕ) (b : BegunValue) (st t : State) → Inv s st → prepares_lie s tx b st ≡ Ok t → Inv s t
  lie_keeps tx b st t inv h =
      enter_keeps law s ok _ _ t (client_signs law.carry s _ b.client [] no_words
      (elsewhere s st st.clients (st.lied ++ record { party = Client b.client; words = _ } ∷ []) _ st.pool st.refused inv)) h

  fault_keeps : (f : Option WorldFault) (answer : Result State WorldFault) (t : State) → (answer ≡ Ok t → Inv s t) → unless_refused f answer
      ≡ Ok t → Inv s t
  fault_keeps None answer t g h = g h
  fault_keeps (Some e) answer t g h = absurd cc

  prepares_keeps : (tx : ℕ) (b : BegunValue) (st t : State) → Inv s st → prepares_at s tx b st ≡ Ok t → Inv s t
  prepares_keeps tx b st t inv h =
      or_keeps b.slot (λ slot. prepares_own s tx b slot st) (unless_refused (prepare_fault s b st) (prepares_lie s tx b st)) t
      (λ slot k. opt_keeps (client_at st b.client) (λ c. prepared_by s tx b slot (call_prepare (client_self s b.client) c slot) st) st t inv
      (λ c j. prepared_keeps tx b slot (call_prepare (client_self s b.client) c slot) st t inv
      (λ d e. law.clients_sign.at_prepare (client_self s b.client) c slot d e) j) k)
      (λ k. fault_keeps (prepare_fault s b st) (prepares_lie s tx b st) t (lie_keeps tx b st t inv) k) h

  -- ---- settle, recover, invoke

  held_words : (o : Option ℕ) (call : ℕ → Result ClientDone CallFault) (d : ClientDone) →
      ((slot : ℕ) → call slot ≡ Ok d → AllWords d.signed) → held_call o call ≡ Ok d → AllWords d.signed
  held_words None call d f h = absurd cc
  held_words (Some slot) call d f h = f slot h

  settles_keeps : (client : ℕ) (f : FormedValue) (st t : State) → Inv s st → settles_at s client f st ≡ Ok t → Inv s t
  settles_keeps client f st t inv h =
      by_client_keeps client (λ c. held_call (slot_of_id c (id f.transaction)) (call_settle (client_self s client) c)) st t inv
      (λ c d e. held_words (slot_of_id c (id f.transaction)) (call_settle (client_self s client) c) d
      (λ slot k. law.clients_sign.at_settle (client_self s client) c slot d k) e) h

  invokes_keeps : (client : ℕ) (f : FormedValue) (st t : State) → Inv s st → invokes_at s client f st ≡ Ok t → Inv s t
  invokes_keeps client f st t inv h =
      by_client_keeps client (λ c. held_call (slot_of_id c (id f.transaction)) (call_invoke (client_self s client) c)) st t inv
      (λ c d e. held_words (slot_of_id c (id f.transaction)) (call_invoke (client_self s client) c) d
      (λ slot k. law.clients_sign.at_invoke (client_self s client) c slot d k) e) h

  recovers_keeps : (client : ℕ) (f : FormedValue) (st t : State) → Inv s st → recovers_at s client f st ≡ Ok t → Inv s t
  recovers_keeps client f st t inv h =
      by_client_keeps client (λ c. call_recover (client_self s client) c f.transaction f.signature) st t inv
      (λ c d e. law.clients_sign.at_recover (client_self s client) c f.transaction f.signature d e) h

  -- ---- faulty parties

  lies_keeps : (p : Party) (lie : LieValue) (st t : State) → Inv s st → lies s p lie st ≡ Ok t → Inv s t
  lies_keeps p lie st t inv h = by (has_left s st p) h
    where
      by : (b : Bool) → cond b (enter s (mail_of p lie.envelope ∷ []) (after_lie st p lie.words)) (Err (fault.Exhausted p)) ≡ Ok t → Inv s t
      by true h =
          enter_keeps law s ok (mail_of p lie.envelope ∷ []) (after_lie st p lie.words) t
          (elsewhere s st st.clients (st.lied ++ record { party = p; words = lie.words } ∷ []) st.begun st.pool st.refused inv) h
      by false h = absurd cc

  ticks_keeps : (moment shard r : ℕ) (o : Option Standing) (st : State) → standing st shard r ≡ o → Inv s st → Inv s (ticks moment o st)
  ticks_keeps moment shard r None st e inv = inv
  ticks_keeps moment shard r (Some x) st e inv =
      let place = at_parts shard r x (found_at shard r st.replicas x e) in
      ticked s st x moment inv (ap (λ (n : ℕ). standing st n x.index) place.0 ∙ ap (λ (n : ℕ). standing st shard n) place.1 ∙ e)

  pool_keeps : (st : State) (o : List Posted) → Inv s st → Inv s (record st { pool = o })
  pool_keeps st o inv = elsewhere s st st.clients st.lied st.begun o st.refused inv

  -- ---- one event

  tx_keeps : (tx : ℕ) (what : BegunValue → State → Result State WorldFault) (st t : State) → Inv s st →
      ((b : BegunValue) → what b st ≡ Ok t → Inv s t) → at_tx tx what st ≡ Ok t → Inv s t
  tx_keeps tx what st t inv f h = opt_keeps (slice_get st.begun tx) (λ b. what b st) st t inv f h

  text_keeps : (tx : ℕ) (what : FormedValue → State → Result State WorldFault) (st t : State) → Inv s st →
      ((f : FormedValue) → what f st ≡ Ok t → Inv s t) → at_formed tx what st ≡ Ok t → Inv s t
  text_keeps tx what st t inv f h =
      opt_keeps (option_and_then (λ (b : BegunValue). b.formed) (slice_get st.begun tx)) (λ b. what b st) st t inv f h

  message_keeps : (message : ℕ) (what : Posted → State → Result State WorldFault) (st t : State) → Inv s st →
      ((p : Posted) → what p st ≡ Ok t → Inv s t) → at_message message what st ≡ Ok t → Inv s t
  message_keeps message what st t inv f h = opt_keeps (posted_at st message) (λ p. what p st) st t inv f h

  pub happens_keeps : (e : EventValue) (st t : State) → Inv s st → happens s e st ≡ Ok t → Inv s t
  happens_keeps (event.Begin client time) st t inv h = begins_keeps client time st t inv h
  happens_keeps (event.Read tx key) st t inv h = tx_keeps tx (reads_at s key) st t inv (λ b k. reads_keeps key b st t inv k) h
  happens_keeps (event.Write tx w) st t inv h = tx_keeps tx (writes_at s tx w) st t inv (λ b k. writes_keeps tx w b st t inv k) h
  happens_keeps (event.Claim tx key None) st t inv h =
      tx_keeps tx (claims_at tx key (Some genesis)) st t inv (λ b k. claims_keeps tx key (Some genesis) b st t inv k) h
  happens_keeps (event.Claim tx key (Some writer)) st t inv h =
      tx_keeps tx (claims_at tx key (formed_version st writer)) st t inv
      (λ b k. claims_keeps tx key (formed_version st writer) b st t inv k) h
  happens_keeps (event.Prepare tx) st t inv h = tx_keeps tx (prepares_at s tx) st t inv (λ b k. prepares_keeps tx b st t inv k) h
  happens_keeps (event.Settle tx client) st t inv h =
      text_keeps tx (settles_at s client) st t inv (λ f k. settles_keeps client f st t inv k) h
  happens_keeps (event.Recover tx client) st t inv h =
      text_keeps tx (recovers_at s client) st t inv (λ f k. recovers_keeps client f st t inv k) h
  happens_keeps (event.Invoke tx client) st t inv h =
      text_keeps tx (invokes_at s client) st t inv (λ f k. invokes_keeps client f st t inv k) h
  happens_keeps (event.Deliver message given) st t inv h =
      message_keeps message (λ p st. hand s message p.from p.to given (marked (message - 1) Delivered p st)) st t inv
      (λ p k. hand_keeps law s ok message p.from p.to given (marked (message - 1) Delivered p st) t
      (pool_keeps st (slice_set st.pool (message - 1) (record p { fate = Delivered })) inv) k) h
  happens_keeps (event.Lose message) st t inv h =
      message_keeps message (λ p st. Ok (marked (message - 1) (lost p.fate) p st)) st t inv
      (λ p k. stay_keeps law s ok (marked (message - 1) (lost p.fate) p st) t
      (pool_keeps st (slice_set st.pool (message - 1) (record p { fate = lost p.fate })) inv)
      (Ok (marked (message - 1) (lost p.fate) p st)) refl k) h
  happens_keeps (event.Divert message to given) st t inv h =
      message_keeps message (λ p st. hand s message p.from to given st) st t inv
      (λ p k. hand_keeps law s ok message p.from to given st t inv k) h
  happens_keeps (event.Clock shard r moment) st t inv h =
      stay_keeps law s ok (ticks moment (standing st shard r) st) t (ticks_keeps moment shard r (standing st shard r) st refl inv)
      (Ok (ticks moment (standing st shard r) st)) refl h
  happens_keeps (event.Vote shard r tx d client) st t inv h =
      text_keeps tx (λ f st. lies s (Replica shard r) (faulty_vote s shard r f.transaction d client st) st) st t inv
      (λ f k. lies_keeps (Replica shard r) (faulty_vote s shard r f.transaction d client st) st t inv k) h
  happens_keeps (event.Second tx d r) st t inv h =
      text_keeps tx (λ f st. enter s (faulty_second s f d r st) st) st t inv
      (λ f k. enter_keeps law s ok (faulty_second s f d r st) st t inv k) h
  happens_keeps (event.Logged shard r tx d decided current client) st t inv h =
      text_keeps tx (λ f st. lies s (Replica shard r) (faulty_reply s shard r f.transaction d decided current client st) st) st t inv
      (λ f k. lies_keeps (Replica shard r) (faulty_reply s shard r f.transaction d decided current client st) st t inv k) h
  happens_keeps (event.Elect shard r tx d view) st t inv h =
      text_keeps tx (λ f st. lies s (Replica shard r) (faulty_word s shard r f.transaction d view st) st) st t inv
      (λ f k. lies_keeps (Replica shard r) (faulty_word s shard r f.transaction d view st) st t inv k) h
  happens_keeps (event.Decide shard r tx d view to) st t inv h =
      text_keeps tx (λ f st. lies s (Replica shard r) (faulty_proposal s shard r f.transaction d view to st) st) st t inv
      (λ f k. lies_keeps (Replica shard r) (faulty_proposal s shard r f.transaction d view to st) st t inv k) h
  happens_keeps (event.Raw from to frame) st t inv h = enter_keeps law s ok (record { from = from; to = to; frame = frame } ∷ []) st t inv h
  happens_keeps (event.Show frame) st t inv h = (see_keeps law s ok frame st t inv h).inv
