-- Transactions are prepared, settled, recovered and invoked.
use Rattle.std.proofs.Common.{◌≡◌, ◌∙◌, ◌<◌, ℕ, zero, suc, Bool, true, false, cond, List, [], ◌∷◌, refl, sym, ap, subst}
use Rattle.std.proofs.lemmas.Option.{same_Some}
use Rattle.std.specs.Option.{option_map_or}
use Rattle.std.specs.Prelude.{Option, Some, None, Result, Ok, Err, option_and_then, option_map, slice_get, slice_set}
use Rattle.basil_types.specs.declared.outbox.Outbox.{Outbox}
use Rattle.basil_types.specs.declared.party.Party.TheVariants.{Client}
use Rattle.basil_types.specs.Transaction.{TransactionValue, id}
use Rattle.basil_types.specs.Words.{SignedWords}
use Rattle.certificates.specs.Deciding.{HasGoodForm}
use Rattle.client_core.specs.Asks.{by_call, is_call}
use Rattle.client_core.specs.Calls.{call_prepare, call_recover}
use Rattle.client_core.specs.Clients.{ClientDone, ClientValue, SlotValue}
use Rattle.client_core.specs.declared.ask.AskFault.{AskFault}
use Rattle.client_core.specs.declared.ask.Ask.{Ask}
use Rattle.client_core.specs.declared.ask.Ask.TheVariants as asks
use Rattle.client_steps.specs.declared.fault.CallFault.{CallFault}
use Rattle.client_steps.specs.declared.fault.CallFault.TheVariants as calls
use Rattle.client_core.specs.Slots as slots
use Rattle.client_core.specs.Slots.{slot_of_id}
use Rattle.client_recover.specs.Pursuits.{signed_part}
use Rattle.client_recover.specs.Taken.{PursuitValue}
use Rattle.frame_views.specs.Values.{SignedValue}
use Rattle.keyring.specs.declared.verifier.Verifier as verifiers
use Rattle.keyring.specs.declared.signer.Signer as signers
use Rattle.message_pool.specs.Posts.{PoolValue}
use Rattle.node_steps.specs.Holding.{Holds}
use Rattle.node_steps.specs.Envelopes.{EnvelopeValue}
use Rattle.txn_meta.specs.declared.form.FormFault.{FormFault}
use Rattle.txn_meta.specs.declared.form.FormFault.TheVariants.{Empty}
use Rattle.txn_meta.specs.Form.{is_empty}
use Rattle.cluster_nodes.specs.Asking.{IsOfKind}
use Rattle.cluster_nodes.specs.declared.handled.Handled.{Handled}
use Rattle.cluster_nodes.specs.declared.handled.Handled.TheVariants as did
use Rattle.cluster_run.specs.declared.fault.WorldFault.{WorldFault}
use Rattle.cluster_run.specs.declared.fault.WorldFault.TheVariants as worlds
use Rattle.cluster_run.specs.Events.{at_formed, by_client, called, held_call, prepared_by, prepares_own, recovers_at, set_begun}
use Rattle.cluster_run.specs.Parts.{client_self, send}
use Rattle.cluster_run.specs.States.{BegunValue, FormedValue, Setup, State, client_at}
use Rattle.cluster_world.specs.Asking.{Does, HasEntry, IsAnswer, Recovers, with_client}
use Rattle.cluster_world.specs.Beginning.{formed_by, formed_in, id_in}
use Rattle.cluster_world.specs.Calling.{IsHeld, SlotCall, holds_at}
use Rattle.cluster_world.specs.Comes.{Comes}
use Rattle.cluster_world.specs.declared.engine.Engine.{Engine}
use Rattle.cluster_world.specs.declared.fault.StepFault.{StepFault}
use Rattle.cluster_world.specs.declared.fault.StepFault.TheVariants as faults
use Rattle.cluster_world.specs.Sending.{HasRoomFor, full_of}
use Rattle.sight_laws.specs.Seen.{PoolIsSeen}
use Rattle.sight_laws.proofs.Growing.{still}
use Rattle.sight_laws.proofs.Happening.{pool_seen}
use Rattle.cluster_world.specs.Shows.{IsCaller, Shows, Stands}
use Rattle.cluster_world.proofs.BeginLaws.{nobody_called, place_of, somebody_called, stands_begun}
use Rattle.cluster_world.proofs.CallLaws.{send_full}
use Rattle.cluster_world.proofs.PairLaws.{here, pairs_length, within}
use Rattle.cluster_world.proofs.SendingLaws.{same_size}

-- ---- what is formed

-- a transaction of good form isn't empty
pub some_in : (t : TransactionValue) → HasGoodForm t → is_empty t ≡ false
some_in t h = by (is_empty t) _ h
  where
    by : (b : Bool) (rest : Option FormFault) → cond b (Some Empty) rest ≡ None → b ≡ false
    by false rest h = refl
    by true rest h = absurd cc

-- what a slot shows of a formed transaction
abbrev as_formed : SignedValue → FormedValue
as_formed x = record { transaction = x.transaction; signature = x.signature }

pub formed_here : (c : ClientValue) (slot : ℕ) (o : Option SignedValue) →
    o ≡ option_and_then slots.formed_in (slice_get c.slots slot) → option_map as_formed o ≡ formed_by c slot
formed_here c slot o e = ap (λ (x : Option SignedValue). option_map as_formed x) e ∙ by (slice_get c.slots slot)
  where
    by_pursuit : (p : Option PursuitValue) → option_map as_formed (option_map signed_part p)
        ≡ option_map (λ (x : PursuitValue). record { transaction = x.transaction; signature = x.signature }) p
    by_pursuit None = refl
    by_pursuit (Some x) = refl

    by : (o : Option SlotValue) → option_map as_formed (option_and_then slots.formed_in o)
        ≡ option_map (λ (x : PursuitValue). record { transaction = x.transaction; signature = x.signature })
        (option_and_then (λ (x : SlotValue). x.pursuit) o)
    by None = refl
    by (Some x) = by_pursuit x.pursuit

pub copied : (c : ClientValue) (slot : ℕ) (copy : FormedValue) (shown : SignedValue) → copy ≡ as_formed shown →
    Some shown ≡ option_and_then slots.formed_in (slice_get c.slots slot) → Some copy ≡ formed_by c slot
copied c slot copy shown is e = ap (λ (x : FormedValue). Some x) is ∙ formed_here c slot (Some shown) e

-- the id that is told of it
pub id_told : (f : FormedValue) (named : List ℕ) (o : Option FormedValue) (u : TransactionValue) → named ≡ id u →
    u ≡ f.transaction → Some f ≡ o → Some named ≡ option_map (λ (f : FormedValue). id f.transaction) o
id_told f named o u is own at =
    ap (λ (n : List ℕ). Some n) (is ∙ ap (λ (x : TransactionValue). id x) own)
    ∙ ap (λ (x : Option FormedValue). option_map (λ (f : FormedValue). id f.transaction) x) at

none_some : {A : Type 0} (x : A) → None ≡ Some x → ⊥
none_some x e = absurd cc

-- ---- prepare

pub set_at : {A : Type 0} (xs : List A) (i : ℕ) (x y : A) → slice_get xs i ≡ Some x → slice_get (slice_set xs i y) i ≡ Some y
set_at [] i x y e = absurd cc
set_at (z ∷ zs) zero x y e = refl
set_at (z ∷ zs) (suc i) x y e = set_at zs i x y e

call_ok : (r : Result ClientDone CallFault) (d : ClientDone) → by_call r ≡ Ok d → r ≡ Ok d
call_ok (Ok x) d e = cc
call_ok (Err x) d e = absurd cc

call_err : (r : Result ClientDone CallFault) (fault : AskFault) → by_call r ≡ Err fault → (f : CallFault) × (r ≡ Err f)
call_err (Ok x) fault e = absurd cc
call_err (Err x) fault e = (x, refl)

pub prepares_nobody : (s : Setup) (st : State) (tx slot client : ℕ) (b : BegunValue) → b.client ≡ client → client_at st client ≡ None →
    prepares_own s tx b slot st ≡ Ok st
prepares_nobody s st tx slot client b own e =
    ap (λ o. option_map_or (λ c. prepared_by s tx b slot (call_prepare (client_self s b.client) c slot) st) o (Ok st))
    (ap (client_at st) own ∙ e)

module _ (s : Setup) (st : State) (tx slot client place : ℕ) (b : BegunValue) (c : ClientValue) (own : b.client ≡ client)
    (number_of : suc place ≡ client) (at : client_at st client ≡ Some c) where
  abbrev pub answer : Result ClientDone CallFault
  answer = call_prepare (client_self s (suc place)) c slot

  pub prepares_by : (r : Result ClientDone CallFault) → answer ≡ r → prepares_own s tx b slot st ≡ prepared_by s tx b slot r st
  prepares_by r e =
      ap (λ o. option_map_or (λ x. prepared_by s tx b slot (call_prepare (client_self s b.client) x slot) st) o (Ok st))
      (ap (client_at st) own ∙ at)
      ∙ ap (λ n. prepared_by s tx b slot (call_prepare (client_self s n) c slot) st) (own ∙ sym number_of)
      ∙ ap (λ x. prepared_by s tx b slot x st) e

  -- what is sent once what is formed is kept
  abbrev pub kept : ClientDone → State
  kept d = set_begun tx (record b { formed = formed_by d.client slot }) (with_client place d.client st)

  pub prepares_sent : (d : ClientDone) → answer ≡ Ok d → prepares_own s tx b slot st ≡ send s (Client client) d.signed d.sent (kept d)
  prepares_sent d e =
      prepares_by (Ok d) e
      ∙ ap (λ n. called s n (Ok d) (set_begun tx (record b { formed = formed_by d.client slot }) st)) own
      ∙ ap (λ n. send s (Client client) d.signed d.sent
      (set_begun tx (record b { formed = formed_by d.client slot }) (with_client n d.client st))) (place_of place client number_of)

  module _ {V S : Type 0} (v : verifiers.Ghosts V) (g : signers.Ghosts S) (old mid new : Engine V S v g) (same : mid.pool ≡ old.pool)
      (h : Shows s old st) (handled : Handled AskFault) (does : Does s st place old.pool (by_call answer) mid handled) where
    posts_same : mid.pool.posts ≡ st.pool
    posts_same = ap (λ (q : PoolValue). q.posts) same ∙ h.posts

    -- a refused call
    pub refused_comes : (fault : AskFault) (r : Result (Unit {0}) StepFault) → handled ≡ did.Refused fault →
        (mid.pool.posts ≡ st.pool → PoolIsSeen s st → Does s st place mid.pool (by_call answer) mid (did.Refused fault) →
        Comes s st (called s client answer st) new r) → Comes s st (prepares_own s tx b slot st) new r
    refused_comes fault r is answered =
        let d = subst (λ x. Does s st place old.pool (by_call answer) mid x) is does in
        let f = call_err answer fault d.0 in
        subst (λ x. Comes s st x new r) (ap (λ x. called s client x st) f.1 ∙ sym (prepares_by (Err f.0) f.1))
        (answered posts_same h.seen d)

    -- there is no room for what is sent
    pub full_comes : (e : StepFault) → handled ≡ did.Full → HasEntry old.pool handled → e ≡ full_of mid.pool →
        Comes s st (prepares_own s tx b slot st) mid (Err e)
    full_comes e is entry of =
        let d = subst (λ x. Does s st place old.pool (by_call answer) mid x) is does in
        let room = subst (λ x. HasEntry old.pool x) is entry in
        subst (λ x. Comes s st (prepares_own s tx b slot st) mid (Err x)) (sym (of ∙ ap full_of same)) (
          prepares_sent d.0 (call_ok answer d.0 d.1)
              ∙ send_full s old.pool (kept d.0) (Client client) d.0.signed d.0.sent room (same_size old.pool.posts st.pool h.posts)
              h.stands.limits d.2,
          record { stands = d.3; posts = posts_same; seen = h.seen },
        )

    -- what is formed is kept, and what is sent enters the pool
    pub sent_comes : (out : Outbox) (r : Result (Unit {0}) StepFault) → handled ≡ did.Sent out → slice_get st.begun tx ≡ Some b →
        slice_get st.clients place ≡ Some c →
        ((now : State) (after : ClientValue) (said : List SignedWords) (mail : List EnvelopeValue) → Shows s mid now →
        slice_get now.begun tx ≡ Some b → slice_get now.clients place ≡ Some after → Holds out mail said →
        Comes s st (send s (Client client) said mail (set_begun tx (record b { formed = formed_by after slot }) now)) new r) →
        Comes s st (prepares_own s tx b slot st) new r
    sent_comes out r is begun there go =
        let d = subst (λ x. Does s st place old.pool (by_call answer) mid x) is does in
        subst (λ x. Comes s st x new r) (sym (prepares_sent d.0 (call_ok answer d.0 d.1)))
        (go (with_client place d.0.client st) d.0.client d.0.signed d.0.sent (record { stands = d.4; posts = posts_same; seen = h.seen })
        begun (set_at st.clients place c d.0.client there) d.3)

    pub sent_room : (out : Outbox) → handled ≡ did.Sent out → HasEntry old.pool handled → HasRoomFor mid.pool out.messages.items
    sent_room out is entry =
        subst (λ q. HasRoomFor q out.messages.items) (sym same) (subst (λ x. HasEntry old.pool x) is entry)

-- ---- keeping what is formed

module _ {V S : Type 0} (v : verifiers.Ghosts V) (g : signers.Ghosts S) (s : Setup) where
  pub kept_by : (core : Engine V S v g) (st : State) (tx : ℕ) (b : BegunValue) (f e : Option FormedValue) → f ≡ e →
      Stands s core (set_begun tx (record b { formed = f }) st) → Stands s core (set_begun tx (record b { formed = e }) st)
  kept_by core st tx b f e is h = subst (λ x. Stands s core (set_begun tx (record b { formed = x }) st)) is h

  -- the pool is as it was
  pub kept_shows : (old new : Engine V S v g) (st after : State) → after.pool ≡ st.pool → after.watch ≡ st.watch →
      after.certified ≡ st.certified → new.pool ≡ old.pool → Shows s old st →
      Stands s new after → Shows s new after
  kept_shows old new st after same watched certified pool h stands =
      record {
        stands = stands;
        posts = ap (λ (q : PoolValue). q.posts) pool ∙ h.posts ∙ sym same;
        seen = pool_seen s st after (still s st after watched certified same) h.seen;
      }

  pub formed_set : (old new : Engine V S v g) (st : State) (tx : ℕ) (node after b : BegunValue) (f : Option FormedValue) →
      new ≡ record old { begun = new.begun } → new.begun.items ≡ slice_set old.begun.items tx after → Stands s old st →
      slice_get old.begun.items tx ≡ Some node → slice_get st.begun tx ≡ Some b → after ≡ record node { formed = f } →
      Stands s new (set_begun tx (record b { formed = f }) st)
  formed_set old new st tx node after b f own set h got at is =
      let same : node ≡ b = same_Some node b (sym (ap (λ (l : List BegunValue). slice_get l tx) (sym h.begun) ∙ got) ∙ at) in
      stands_begun v g s old new st (slice_set st.begun tx (record b { formed = f })) own
      (set ∙ ap (λ (l : List BegunValue). slice_set l tx after) h.begun
      ∙ ap (λ (x : BegunValue). slice_set st.begun tx x) (is ∙ ap (λ (x : BegunValue). record x { formed = f }) same)) h

  -- a client of the run stands in the world
  pub caller_lacks : (core : Engine V S v g) (st : State) (place : ℕ) (c : ClientValue) → Stands s core st →
      None ≡ slice_get core.clients.items place → slice_get st.clients place ≡ Some c → ⊥
  caller_lacks core st place c h none at =
      let k =
      here core.clients.items place
      (subst (λ n. place < n) (sym (pairs_length (IsCaller s) core.clients.items st.clients h.clients)) (within st.clients place c at)) in
      none_some k.0 (none ∙ k.1)

-- ---- settle and invoke

named_formed : (begun : List BegunValue) (tx : ℕ) (named : List ℕ) → id_in begun tx ≡ Some named →
    (f : FormedValue) × (formed_in begun tx ≡ Some f) × (id f.transaction ≡ named)
named_formed begun tx named e = by (formed_in begun tx) refl e
  where
    by : (o : Option FormedValue) → formed_in begun tx ≡ o → option_map (λ (f : FormedValue). id f.transaction) o ≡ Some named →
        (f : FormedValue) × (formed_in begun tx ≡ Some f) × (id f.transaction ≡ named)
    by None q e = absurd cc
    by (Some f) q e = (f, q, same_Some (id f.transaction) named e)

unformed : (begun : List BegunValue) (tx : ℕ) → id_in begun tx ≡ None → formed_in begun tx ≡ None
unformed begun tx e = by (formed_in begun tx) e
  where
    by : (o : Option FormedValue) → option_map (λ (f : FormedValue). id f.transaction) o ≡ None → o ≡ None
    by None e = refl
    by (Some f) e = absurd cc

-- nothing is formed
pub not_formed : (st : State) (tx : ℕ) (what : FormedValue → State → Result State WorldFault) → formed_in st.begun tx ≡ None →
    at_formed tx what st ≡ Ok st
not_formed st tx what e = ap (λ o. option_map_or (λ f. what f st) o (Ok st)) e

pub formed_as : (st : State) (tx : ℕ) (what : FormedValue → State → Result State WorldFault) (f : FormedValue) →
    formed_in st.begun tx ≡ Some f → at_formed tx what st ≡ what f st
formed_as st tx what f e = ap (λ o. option_map_or (λ f. what f st) o (Ok st)) e

-- where nobody has this number nothing happens
pub formed_nobody : (st : State) (tx : ℕ) (what : FormedValue → State → Result State WorldFault) →
    ((f : FormedValue) → what f st ≡ Ok st) → at_formed tx what st ≡ Ok st
formed_nobody st tx what each = by (formed_in st.begun tx)
  where
    by : (o : Option FormedValue) → option_map_or (λ f. what f st) o (Ok st) ≡ Ok st
    by None = refl
    by (Some f) = each f

pub held_unformed : (s : Setup) (st : State) (tx client : ℕ) → id_in st.begun tx ≡ None → IsHeld s st tx client (Ok None)
held_unformed s st tx client e = λ call. not_formed st tx (holds_at s client call) (unformed st.begun tx e)

pub held_nobody : (s : Setup) (st : State) (tx client : ℕ) → client_at st client ≡ None → IsHeld s st tx client (Ok None)
held_nobody s st tx client e = λ call.
    formed_nobody st tx (holds_at s client call)
    (λ f. nobody_called s st client (λ c. held_call (slot_of_id c (id f.transaction)) (call c)) e)

module _ (s : Setup) (st : State) (tx client place : ℕ) (named : List ℕ) (c : ClientValue) (is : id_in st.begun tx ≡ Some named)
    (there : client_at st client ≡ slice_get st.clients place) (at : slice_get st.clients place ≡ Some c) where
  held_as : (o : Option ℕ) (call : SlotCall) → o ≡ slot_of_id c named →
      at_formed tx (holds_at s client call) st ≡ called s client (held_call o (call c)) st
  held_as o call e =
      let f = named_formed st.begun tx named is in
      formed_as st tx (holds_at s client call) f.0 f.1
      ∙ somebody_called s st client place c (λ x. held_call (slot_of_id x (id f.0.transaction)) (call x)) there at
      ∙ ap (λ n. called s client (held_call (slot_of_id c n) (call c)) st) f.2
      ∙ ap (λ x. called s client (held_call x (call c)) st) (sym e)

  pub held_here : (slot : ℕ) → Some slot ≡ slot_of_id c named → IsHeld s st tx client (Ok (Some slot))
  held_here slot e = λ call.
      held_as (Some slot) call e ∙ sym (somebody_called s st client place c (λ x. call x slot) there at)

  pub held_nowhere : (fault : StepFault) → None ≡ slot_of_id c named → fault ≡ faults.World (worlds.Call calls.NotPrepared) →
      IsHeld s st tx client (Err fault)
  held_nowhere fault e is = (is, λ call. held_as None call e)

-- a call on the slot in which it is held
pub held_calls : (s : Setup) (st : State) (tx client slot : ℕ) (o : Option ℕ) (call : SlotCall) → IsHeld s st tx client (Ok o) →
    o ≡ Some slot → at_formed tx (holds_at s client call) st ≡ by_client s client (λ c. call c slot) st
held_calls s st tx client slot o call held is = subst (λ x. IsHeld s st tx client (Ok x)) is held call

pub held_quiet : (s : Setup) (st : State) (tx client : ℕ) (o : Option ℕ) (call : SlotCall) → IsHeld s st tx client (Ok o) →
    o ≡ None → at_formed tx (holds_at s client call) st ≡ Ok st
held_quiet s st tx client o call held is = subst (λ x. IsHeld s st tx client (Ok x)) is held call

pub unheld_comes : {V S : Type 0} (v : verifiers.Ghosts V) (g : signers.Ghosts S) (s : Setup) (core : Engine V S v g) (st : State)
    (tx client : ℕ) (call : SlotCall) (fault : StepFault) → IsHeld s st tx client (Err fault) → Shows s core st →
    Comes s st (at_formed tx (holds_at s client call) st) core (Err fault)
unheld_comes v g s core st tx client call fault held h =
    subst (λ e. Comes s st (at_formed tx (holds_at s client call) st) core (Err e)) (sym held.0) (held.1 call, h)

-- ---- recover

pub answer_of_kind : (pool : PoolValue) (ask : Ask) (handled : Handled AskFault) → is_call ask ≡ true → IsOfKind ask handled →
    HasEntry pool handled → IsAnswer pool handled
answer_of_kind pool ask handled call kind entry = record { kind = by handled kind; within = entry }
  where
    by : (handled : Handled AskFault) → IsOfKind ask handled → IsOfKind (asks.Prepare 0) handled
    by (did.Refused fault) k = k ∙ call
    by did.Full k = tt
    by (did.Sent out) k = tt

pub recovers_as : (s : Setup) (st : State) (tx client place : ℕ) (c : ClientValue) (f : FormedValue) → suc place ≡ client →
    formed_in st.begun tx ≡ Some f → client_at st client ≡ slice_get st.clients place → slice_get st.clients place ≡ Some c →
    at_formed tx (recovers_at s client) st
    ≡ called s client (call_recover (client_self s (suc place)) c f.transaction f.signature) st
recovers_as s st tx client place c f number_of formed there at =
    formed_as st tx (recovers_at s client) f formed
    ∙ somebody_called s st client place c (λ x. call_recover (client_self s client) x f.transaction f.signature) there at
    ∙ ap (λ n. called s client (call_recover (client_self s n) c f.transaction f.signature) st) (sym number_of)

pub recovers_nobody : (s : Setup) (st : State) (tx client : ℕ) → client_at st client ≡ None →
    at_formed tx (recovers_at s client) st ≡ Ok st
recovers_nobody s st tx client e =
    formed_nobody st tx (recovers_at s client)
    (λ f. nobody_called s st client (λ x. call_recover (client_self s client) x f.transaction f.signature) e)

module _ {V S : Type 0} (v : verifiers.Ghosts V) (g : signers.Ghosts S) (s : Setup) where
  -- the client is asked for what was formed
  pub recovers_by : (pool : PoolValue) (core : Engine V S v g) (st : State) (tx place : ℕ) (c : ClientValue) (f : FormedValue)
      (t : TransactionValue) (signature : List ℕ) (handled : Handled AskFault) → formed_in st.begun tx ≡ Some f → t ≡ f.transaction →
      signature ≡ f.signature →
      Does s st place pool (by_call (call_recover (client_self s (suc place)) c t signature)) core handled →
      Recovers s st tx place c pool core (Ok (Some handled))
  recovers_by pool core st tx place c f t signature handled formed is_t is_signature does = (
    f,
    formed,
    subst (λ x. Does s st place pool (by_call (call_recover (client_self s (suc place)) c x f.signature)) core handled) is_t
        (subst (λ x. Does s st place pool (by_call (call_recover (client_self s (suc place)) c t x)) core handled) is_signature does),
  )

  module _ (old mid new : Engine V S v g) (st : State) (tx client place : ℕ) (c : ClientValue) (number_of : suc place ≡ client)
      (there : client_at st client ≡ slice_get st.clients place) (at : slice_get st.clients place ≡ Some c) (same : mid.pool ≡ old.pool)
      (h : Shows s old st) (asked : Option (Handled AskFault)) (did_so : Recovers s st tx place c old.pool mid (Ok asked)) where
    same_posts : mid.pool.posts ≡ st.pool
    same_posts = ap (λ (q : PoolValue). q.posts) same ∙ h.posts

    pub recover_comes : (handled : Handled AskFault) (r : Result (Unit {0}) StepFault) → asked ≡ Some handled →
        ((answer : Result ClientDone CallFault) → mid.pool.posts ≡ st.pool → PoolIsSeen s st →
        Does s st place mid.pool (by_call answer) mid handled →
        Comes s st (called s client answer st) new r) → Comes s st (at_formed tx (recovers_at s client) st) new r
    recover_comes handled r is answered =
        let d = subst (λ x. Recovers s st tx place c old.pool mid (Ok x)) is did_so in
        let answer = call_recover (client_self s (suc place)) c d.0.transaction d.0.signature in
        subst (λ x. Comes s st x new r) (sym (recovers_as s st tx client place c d.0 number_of d.1 there at))
        (answered answer same_posts h.seen (subst (λ q. Does s st place q (by_call answer) mid handled) (sym same) d.2))

    pub unformed_comes : asked ≡ None → Comes s st (at_formed tx (recovers_at s client) st) mid (Ok tt)
    unformed_comes is =
        let d = subst (λ x. Recovers s st tx place c old.pool mid (Ok x)) is did_so in
        (st, not_formed st tx (recovers_at s client) d.0, record { stands = d.1; posts = same_posts; seen = h.seen })
