-- Clients are asked.
use Rattle.std.proofs.Common.{◌≡◌, ◌∙◌, ◌<◌, ◌≤◌, ℕ, suc, ◌+◌, ◌-◌, true, false, cond, List, length, refl, sym}
use Rattle.std.proofs.Common.{ap, subst, arith}
use Rattle.std.proofs.lemmas.Bool.{le-leb}
use Rattle.std.proofs.lemmas.Option.{same_Some}
use Rattle.std.specs.Prelude.{Some, None, Result, Ok, Err, slice_get, slice_set}
use Rattle.basil_types.specs.declared.memory.NoMemory.{NoMemory}
use Rattle.basil_types.specs.declared.party.Party.TheVariants.{Client}
use Rattle.certificates.specs.declared.fault.FrameFault.{FrameFault}
use Rattle.client_core.specs.Answers.{on_frame}
use Rattle.client_core.specs.Asks.{by_frame}
use Rattle.client_core.specs.Clients.{ClientDone, ClientValue}
use Rattle.client_core.specs.declared.ask.AskFault.{AskFault}
use Rattle.keyring.specs.declared.verifier.Verifier as verifiers
use Rattle.keyring.specs.declared.signer.Signer as signers
use Rattle.message_pool.specs.declared.pool.Room.{Room}
use Rattle.message_pool.specs.Posts.{PoolValue, pool_bytes}
use Rattle.node_steps.specs.Pendings.{bytes_sent}
use Rattle.cluster_nodes.specs.declared.calling.StandingClient.{StandingClient}
use Rattle.cluster_nodes.specs.declared.handled.Handled.{Handled}
use Rattle.cluster_nodes.specs.declared.handled.Handled.TheVariants as did
use Rattle.cluster_nodes.specs.Asking as asking
use Rattle.cluster_nodes.specs.Handling.{IsWithin, fits}
use Rattle.cluster_nodes.specs.Standings.{HoldsAs}
use Rattle.cluster_run.specs.Parts.{client_did, client_handles, client_self}
use Rattle.cluster_run.specs.States.{Setup, State, client_at}
use Rattle.cluster_world.specs.Asking.{Asked, Does, HasEntry, with_client}
use Rattle.cluster_world.specs.declared.engine.Engine.{Engine}
use Rattle.cluster_world.specs.declared.fault.StepFault.{StepFault}
use Rattle.cluster_world.specs.declared.taking.Took.{Took}
use Rattle.cluster_world.specs.Pairs.{Pairs}
use Rattle.cluster_world.specs.Sending.{room_of}
use Rattle.cluster_world.specs.Shows.{IsCaller, Stands}
use Rattle.cluster_world.specs.Taking.{Handles, Sends, Takes, took_of}
use Rattle.cluster_world.proofs.SendingLaws.{Leaves, within_limits}
use Rattle.cluster_world.proofs.PairLaws.{beyond, here, pairs_at, pairs_length, pairs_set, set_own}

-- ---- room

left_by : (a p m : ℕ) → a + p ≡ m → a ≡ m - p
left_by a p m h = omega arith

pub room_left : (pool : PoolValue) (room : Room) → Leaves pool room → room ≡ room_of pool
room_left pool room h =
    ap (λ (n : ℕ). record room { messages = n }) (left_by room.messages (length pool.posts) pool.limits.messages h.messages)
    ∙ ap (λ (n : ℕ). record (room_of pool) { bytes = n }) (left_by room.bytes (pool_bytes pool.posts) pool.limits.bytes h.bytes)

pub has_entry : {E : Type 0} (pool : PoolValue) (room : Room) (handled : Handled E) → Leaves pool room → IsWithin room handled →
    HasEntry pool handled
has_entry pool room (did.Refused e) leaves w = tt
has_entry pool room did.Full leaves w = within_limits pool room leaves
has_entry pool room (did.Sent out) leaves w =
    let few : length out.messages.items ≤ room.messages = w.messages in
    let small : bytes_sent out.messages.items ≤ room.bytes = w.bytes in
    let a : room.messages + length pool.posts ≡ pool.limits.messages = leaves.messages in
    let b : room.bytes + pool_bytes pool.posts ≡ pool.limits.bytes = leaves.bytes in
    record { few = omega arith; small = omega arith }

-- ---- the client of a number

pub client_there : (st : State) (place number : ℕ) → suc place ≡ number → client_at st number ≡ slice_get st.clients place
client_there st place number e =
    let one : 1 ≤ number = omega (arith, e) in
    let same : number - 1 ≡ place = omega (arith, e) in
    ap (λ b. cond b (slice_get st.clients (number - 1)) None) (le-leb 1 number one) ∙ ap (slice_get st.clients) same

pub nobody_there : {V S : Type 0} (v : verifiers.Ghosts V) (g : signers.Ghosts S) (s : Setup) (core : Engine V S v g) (st : State)
    (number place : ℕ) → Stands s core st → suc place ≡ number → length core.clients.items ≤ place → client_at st number ≡ None
nobody_there v g s core st number place h e beyond_it =
    client_there st place number e
    ∙ beyond st.clients place (subst (λ n. n ≤ place) (pairs_length (IsCaller s) core.clients.items st.clients h.clients) beyond_it)

-- ---- what a client that was asked did

module _ {V S : Type 0} (v : verifiers.Ghosts V) (g : signers.Ghosts S) (s : Setup) (old new : Engine V S v g) (st : State)
    (node : StandingClient V S v g) (place : ℕ) (own : new ≡ record old { clients = new.clients })
    (set : new.clients.items ≡ slice_set old.clients.items place node) (h : Stands s old st) where
  -- another client stands for another value at this place
  pub stands_client : (c : ClientValue) → HoldsAs s (suc place) node c → Stands s new (with_client place c st)
  stands_client c one =
      subst (λ x. Stands s x (with_client place c st)) (sym own)
      (record {
        members = h.members;
        earlier = h.earlier;
        sight = h.sight;
        pens = h.pens;
        replicas = h.replicas;
        clients = subst (λ l. Pairs (IsCaller s) l (slice_set st.clients place c)) (sym set)
            (pairs_set (IsCaller s) old.clients.items st.clients place node c h.clients one);
        begun = h.begun;
        limits = h.limits;
        refused = h.refused;
      })

  pub stands_kept : (c : ClientValue) → slice_get st.clients place ≡ Some c → HoldsAs s (suc place) node c → Stands s new st
  stands_kept c at one =
      subst (λ l. Stands s new (record st { clients = l })) (set_own st.clients place c at) (stands_client c one)

  pub asked_by : (c : ClientValue) (room : Room) (answer : Result ClientDone AskFault) (r : Result (Handled AskFault) NoMemory) →
      slice_get st.clients place ≡ Some c → room ≡ room_of old.pool → asking.Answers s (suc place) c room answer r node →
      Asked s st place old.pool answer new r
  asked_by c room answer (Ok (did.Refused fault)) at left a = (a.0, stands_kept c at a.1)
  asked_by c room answer (Ok did.Full) at left a =
      (a.0, a.1, subst (λ (x : Room). fits x a.0.sent ≡ false) left a.2, stands_kept c at a.3)
  asked_by c room answer (Ok (did.Sent out)) at left a =
      (a.0, a.1, subst (λ (x : Room). fits x a.0.sent ≡ true) left a.2, a.3, stands_client a.0.client a.4)
  asked_by c room answer (Err wanting) at left a = tt

-- the value beside a client
pub caller_at : {V S : Type 0} (v : verifiers.Ghosts V) (g : signers.Ghosts S) (s : Setup) (core : Engine V S v g) (st : State)
    (place : ℕ) (node : StandingClient V S v g) (c : ClientValue) → Stands s core st → slice_get core.clients.items place ≡ Some node →
    slice_get st.clients place ≡ Some c → HoldsAs s (suc place) node c
caller_at v g s core st place node c h got at =
    let p = pairs_at (IsCaller s) core.clients.items st.clients place node h.clients got in
    subst (HoldsAs s (suc place) node) (same_Some p.0 c (sym p.1 ∙ at)) p.2

-- ---- frames of clients

module _ {V S : Type 0} (v : verifiers.Ghosts V) (g : signers.Ghosts S) (s : Setup) (st : State) (pool : PoolValue)
    (client place : ℕ) (frame : List ℕ) (c : ClientValue) (number_of : suc place ≡ client) (at : client_at st client ≡ Some c) where
  abbrev handles : Handles
  handles number now = client_handles s number client frame (client_at st client) now

  handled_by : (number : ℕ) (r : Result ClientDone FrameFault) → on_frame (client_self s client) c frame ≡ r →
      handles number st ≡ client_did s number client r st
  handled_by number r e =
      ap (λ o. client_handles s number client frame o st) at ∙ ap (λ a. client_did s number client a st) e

  abbrev sends : (d : ClientDone) → on_frame (client_self s client) c frame ≡ Ok d → Sends s handles st
  sends d e =
      record {
        party = Client client;
        said = d.signed;
        mail = d.sent;
        after = record st { clients = slice_set st.clients (client - 1) d.client };
        same = refl;
        watched = refl;
        certified = refl;
        is = λ number. handled_by number (Ok d) e;
      }

  place_of : place ≡ client - 1
  place_of = omega (arith, number_of)

  by_frame_ok : (r : Result ClientDone FrameFault) (d : ClientDone) → by_frame r ≡ Ok d → r ≡ Ok d
  by_frame_ok (Ok x) d e = cc
  by_frame_ok (Err x) d e = absurd cc

  refused_by : (r : Result ClientDone FrameFault) (fault : AskFault) → by_frame r ≡ Err fault → (e : FrameFault) × (r ≡ Err e)
  refused_by (Ok x) fault e = absurd cc
  refused_by (Err x) fault e = (x, refl)

  pub client_taken : (core : Engine V S v g) (handled : Handled AskFault) → HasEntry pool handled →
      Does s st place pool (by_frame (on_frame (client_self s client) c frame)) core handled →
      Takes s st pool handles core (took_of pool (Client client) handled)
  client_taken core (did.Refused fault) entry a =
      let r = refused_by (on_frame (client_self s client) c frame) fault a.0 in
      (λ number. handled_by number (Err r.0) r.1, a.1)
  client_taken core did.Full entry a =
      (refl, entry, sends a.0 (by_frame_ok (on_frame (client_self s client) c frame) a.0 a.1), a.2, a.3)
  client_taken core (did.Sent out) entry a = (
    sends a.0 (by_frame_ok (on_frame (client_self s client) c frame) a.0 a.1),
    refl,
    a.2,
    a.3,
    subst (λ n. Stands s core (record st { clients = slice_set st.clients n a.0.client })) place_of a.4,
  )

pub client_takes_so : {V S : Type 0} (v : verifiers.Ghosts V) (g : signers.Ghosts S) (s : Setup) (st : State) (number place : ℕ) →
    suc place ≡ number → (frame : List ℕ) (old mid : Engine V S v g) (handled : Handled AskFault) (r : Result Took StepFault) →
    Stands s old st → place < length old.clients.items → client_at st number ≡ slice_get st.clients place → mid.pool ≡ old.pool →
    HasEntry old.pool handled →
    ((c : ClientValue) → Stands s old st → slice_get st.clients place ≡ Some c →
    Does s st place old.pool (by_frame (on_frame (client_self s (suc place)) c frame)) mid handled) →
    r ≡ took_of mid.pool (Client number) handled →
    Takes s st old.pool (λ count now. client_handles s count number frame (client_at st number) now) mid r
client_takes_so v g s st number place e frame old mid handled r h within somebody same entry asked took =
    let c = here st.clients place
    (subst (λ n. place < n) (pairs_length (IsCaller s) old.clients.items st.clients h.clients) within) in
    subst (Takes s st old.pool (λ count now. client_handles s count number frame (client_at st number) now) mid)
    (sym (took ∙ ap (λ (q : PoolValue). took_of q (Client number) handled) same))
    (client_taken v g s st old.pool number place frame c.0 e (somebody ∙ c.1) mid handled entry
    (subst (λ n. Does s st place old.pool (by_frame (on_frame (client_self s n) c.0 frame)) mid handled) e (asked c.0 h c.1)))
