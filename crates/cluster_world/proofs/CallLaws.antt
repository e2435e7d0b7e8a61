-- What a call of a client comes to.
use Rattle.std.proofs.Common.{◌≡◌, ◌∙◌, ◌<◌, ℕ, suc, ◌-◌, arith, false, List, length, map, sym}
use Rattle.std.proofs.Common.{ap, subst}
use Rattle.std.specs.Prelude.{Some, Result, Ok, Err, slice_get, slice_set}
use Rattle.basil_types.specs.declared.outbox.Outbox.{Outbox}
use Rattle.basil_types.specs.declared.party.Party.{Party}
use Rattle.basil_types.specs.declared.party.Party.TheVariants.{Client}
use Rattle.basil_types.specs.Words.{SignedWords}
use Rattle.client_core.specs.Asks.{answer_to, by_call}
use Rattle.client_core.specs.declared.ask.Ask.{Ask}
use Rattle.client_core.specs.Clients.{ClientDone, ClientValue}
use Rattle.client_core.specs.declared.ask.AskFault.{AskFault}
use Rattle.client_core.specs.declared.ask.AskFault.TheVariants.{Call}
use Rattle.client_steps.specs.declared.fault.CallFault.{CallFault}
use Rattle.keyring.specs.declared.verifier.Verifier as verifiers
use Rattle.keyring.specs.declared.signer.Signer as signers
use Rattle.message_pool.specs.Posts.{PoolValue, pool_bytes}
use Rattle.node_steps.specs.Holding.{Holds}
use Rattle.node_steps.specs.Envelopes.{EnvelopeValue}
use Rattle.cluster_nodes.specs.declared.handled.Handled.{Handled}
use Rattle.cluster_nodes.specs.declared.handled.Handled.TheVariants as did
use Rattle.cluster_nodes.specs.Handling.{fits}
use Rattle.cluster_run.specs.declared.fault.WorldFault.TheVariants as worlds
use Rattle.cluster_run.specs.Events.{at_client, by_client, called}
use Rattle.cluster_run.specs.Parts.{client_self, mail_of, noted, send}
use Rattle.cluster_run.specs.States.{Setup, State, client_at}
use Rattle.premise_watch.specs.declared.broken.WatchFault.{WatchFault}
use Rattle.cluster_world.specs.Asking.{Does, with_client}
use Rattle.cluster_world.specs.Comes.{Comes}
use Rattle.cluster_world.specs.declared.engine.Engine.{Engine}
use Rattle.cluster_world.specs.declared.fault.StepFault.{StepFault}
use Rattle.cluster_world.specs.declared.fault.StepFault.TheVariants as faults
use Rattle.cluster_world.specs.Sending.{Goes, IsWithin, full_of, room_of}
use Rattle.sight_laws.specs.Seen.{PoolIsSeen}
use Rattle.cluster_world.specs.Shows.{IsCaller, Shows, Stands, limits_of}
use Rattle.cluster_world.proofs.PairLaws.{here, pairs_length}
use Rattle.cluster_world.proofs.SendingLaws.{SameSize, fits_room, full_by, same_size}

-- where there is no room for what is sent, the pool is full
pub send_full : (s : Setup) (pool : PoolValue) (next : State) (from : Party) (said : List SignedWords) (mail : List EnvelopeValue) →
    IsWithin pool → SameSize pool.posts next.pool → pool.limits ≡ limits_of s → fits (room_of pool) mail ≡ false →
    send s from said mail next ≡ Err (worlds.PoolFull (length pool.posts) (pool_bytes pool.posts))
send_full s pool next from said mail in_limits same limits lacks =
    let after : State = record next { watch = noted from said next.watch } in
    full_by s after (map (mail_of from) mail) (sym (fits_room s after pool from mail in_limits same limits) ∙ lacks)
    ∙ ap (λ n. Err (worlds.PoolFull n (pool_bytes next.pool))) (sym same.count)
    ∙ ap (λ n. Err (worlds.PoolFull (length pool.posts) n)) (sym same.bytes)

place_of : (place number : ℕ) → suc place ≡ number → place ≡ number - 1
place_of place number e = omega (arith, e)

module _ {V S : Type 0} (v : verifiers.Ghosts V) (g : signers.Ghosts S) (s : Setup) (st : State) (number place : ℕ)
    (number_of : suc place ≡ number) (answer : Result ClientDone CallFault) where
  call_ok : (r : Result ClientDone CallFault) (d : ClientDone) → by_call r ≡ Ok d → r ≡ Ok d
  call_ok (Ok x) d e = cc
  call_ok (Err x) d e = absurd cc

  call_err : (r : Result ClientDone CallFault) (f : CallFault) → by_call r ≡ Err (Call f) → r ≡ Err f
  call_err (Ok x) f e = absurd cc
  call_err (Err x) f e = cc

  abbrev next : ClientDone → State
  next d = record st { clients = slice_set st.clients (number - 1) d.client }

  next_same : (d : ClientDone) → with_client place d.client st ≡ next d
  next_same d = ap (λ n. record st { clients = slice_set st.clients n d.client }) (place_of place number number_of)

  -- a refused call
  pub call_refused : (core : Engine V S v g) (fault : AskFault) (f : CallFault) → fault ≡ Call f →
      Does s st place core.pool (by_call answer) core (did.Refused fault) → core.pool.posts ≡ st.pool → PoolIsSeen s st →
      Comes s st (called s number answer st) core (Err (faults.World (worlds.Call f)))
  call_refused core fault f is a posts seen = (
    ap (λ r. called s number r st) (call_err answer f (a.0 ∙ ap Err is)),
    record { stands = a.1; posts = posts; seen = seen },
  )

  pub call_full : (core : Engine V S v g) → IsWithin core.pool → core.pool.posts ≡ st.pool → PoolIsSeen s st →
      Does s st place core.pool (by_call answer) core did.Full →
      Comes s st (called s number answer st) core (Err (full_of core.pool))
  call_full core in_limits posts seen a = (
    ap (λ r. called s number r st) (call_ok answer a.0 a.1)
        ∙ send_full s core.pool (next a.0) (Client number) a.0.signed a.0.sent in_limits (same_size core.pool.posts st.pool posts)
        a.3.limits a.2,
    record { stands = a.3; posts = posts; seen = seen },
  )

  -- what the call sends
  pub call_goes : (old new : Engine V S v g) (out : Outbox) (r : Result (Unit {0}) WatchFault) → old.pool.posts ≡ st.pool →
      PoolIsSeen s st →
      Does s st place old.pool (by_call answer) old (did.Sent out) →
      ((now : State) (said : List SignedWords) (mail : List EnvelopeValue) → Shows s old now → Holds out mail said →
      Goes s (send s (Client number) said mail now) new r) → Goes s (called s number answer st) new r
  call_goes old new out r posts seen a go =
      let d = a.0 in
      subst (λ x. Goes s x new r)
      (ap (λ st. send s (Client number) d.signed d.sent st) (next_same d) ∙ sym (ap (λ x. called s number x st) (call_ok answer d a.1)))
      (go (with_client place d.client st) d.signed d.sent (record { stands = a.4; posts = posts; seen = seen }) a.3)

-- a call of a client of the cluster
pub call_comes : {V S : Type 0} (v : verifiers.Ghosts V) (g : signers.Ghosts S) (s : Setup) (st : State) (number place : ℕ) →
    suc place ≡ number → (old mid new : Engine V S v g) (ask : Ask) (call : ClientValue → Result ClientDone CallFault)
    (handled : Handled AskFault) (r : Result (Unit {0}) StepFault) → Shows s old st → place < length old.clients.items →
    client_at st number ≡ slice_get st.clients place →
    ((c : ClientValue) → answer_to (client_self s number) c ask ≡ by_call (call c)) → mid.pool ≡ old.pool →
    ((c : ClientValue) → Stands s old st → slice_get st.clients place ≡ Some c →
    Does s st place old.pool (answer_to (client_self s (suc place)) c ask) mid handled) →
    ((answer : Result ClientDone CallFault) → suc place ≡ number → mid.pool.posts ≡ st.pool → PoolIsSeen s st →
    Does s st place mid.pool (by_call answer) mid handled → Comes s st (called s number answer st) new r) →
    Comes s st (by_client s number call st) new r
call_comes v g s st number place e old mid new ask call handled r h within somebody is same asked answered =
    let c = here st.clients place
    (subst (λ n. place < n) (pairs_length (IsCaller s) old.clients.items st.clients h.stands.clients) within) in
    let does = asked c.0 h.stands c.1 in
    let meant : answer_to (client_self s (suc place)) c.0 ask ≡ by_call (call c.0) =
    ap (λ n. answer_to (client_self s n) c.0 ask) e ∙ is c.0 in
    subst (λ x. Comes s st x new r) (sym (ap (λ o. at_client s number call o st) (somebody ∙ c.1)))
    (answered (call c.0) e (ap (λ (q : PoolValue). q.posts) same ∙ h.posts) h.seen
    (subst (λ a. Does s st place mid.pool a mid handled) meant
    (subst (λ (q : PoolValue). Does s st place q (answer_to (client_self s (suc place)) c.0 ask) mid handled) (sym same) does)))
