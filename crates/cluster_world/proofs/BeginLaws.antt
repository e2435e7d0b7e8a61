-- What a call that sends nothing comes to, and what becomes of begun transactions.
use Rattle.std.proofs.Common.{◌≡◌, ◌≢◌, ◌∙◌, ◌<◌, ◌≤◌, ℕ, suc, ◌-◌, true, false, cond, List, [], length, refl, sym, ap, subst, arith}
use Rattle.std.proofs.lemmas.List.{append-nil}
use Rattle.std.proofs.lemmas.Option.{same_Some}
use Rattle.std.specs.Prelude.{Option, Some, None, Result, Ok, Err, IfErr, OnErr, OnOk, option_and_then, option_map, slice_get, slice_set}
use Rattle.std.specs.Option.{option_map_or}
use Rattle.basil_types.specs.Built.{write_fits}
use Rattle.basil_types.specs.declared.party.Party.{Party}
use Rattle.basil_types.specs.declared.party.Party.TheVariants.{Client}
use Rattle.basil_types.specs.declared.transaction.parts.WritePart.{WritePart}
use Rattle.basil_types.specs.declared.version.Version.{Version}
use Rattle.client_core.specs.Calls.{begin_done, by_slot, call_begin, call_read, call_write, write_done, write_fault}
use Rattle.client_core.specs.Clients.{ClientDone, ClientValue, SlotValue, quiet}
use Rattle.client_steps.specs.declared.fault.CallFault.{CallFault}
use Rattle.client_steps.specs.declared.fault.CallFault.TheVariants as calls
use Rattle.keyring.specs.declared.verifier.Verifier as verifiers
use Rattle.keyring.specs.declared.signer.Signer as signers
use Rattle.message_pool.specs.Posts.{PoolValue, pool_bytes}
use Rattle.node_steps.specs.Refusing.{unless}
use Rattle.cluster_nodes.specs.declared.calling.StandingClient.{StandingClient}
use Rattle.cluster_nodes.specs.Asking.{Called}
use Rattle.cluster_nodes.specs.Standings.{HoldsAs}
use Rattle.cluster_run.specs.declared.fault.WorldFault.{WorldFault}
use Rattle.cluster_run.specs.declared.fault.WorldFault.TheVariants as worlds
use Rattle.cluster_run.specs.Events as events
use Rattle.cluster_run.specs.Events.{at_client, at_tx, begins, begins_in, begun_by, by_client, called, claims_at, reads_at, set_begun}
use Rattle.cluster_run.specs.Events.{unless_formed, with_begun, writes_at}
use Rattle.client_core.specs.Slots.{put_write}
use Rattle.cluster_run.specs.Parts.{client_self, noted, send}
use Rattle.cluster_run.specs.States.{BegunValue, Setup, State, client_at, is_faulty}
use Rattle.run_begun.specs.Adding.{ClaimsAreAdded, WritesAreAdded, after_adding, claimed, written}
use Rattle.cluster_world.specs.Asking.{with_client}
use Rattle.cluster_world.specs.Beginning.{own_slot, version_claimed, written_value}
use Rattle.cluster_world.specs.Calling.{AddsTo, CallsAt}
use Rattle.cluster_world.specs.Calls.{step_fault_of}
use Rattle.cluster_world.specs.Comes.{Comes}
use Rattle.cluster_world.specs.declared.engine.Engine.{Engine}
use Rattle.cluster_world.specs.declared.fault.StepFault.{StepFault}
use Rattle.cluster_world.specs.declared.written.Written.{Written}
use Rattle.cluster_world.specs.Sending.{HasRoomFor, IsWithin}
use Rattle.cluster_world.specs.Shows.{IsCaller, Shows, Stands, limits_of}
use Rattle.cluster_world.proofs.AskingLaws.{stands_client, stands_kept}
use Rattle.cluster_world.proofs.PairLaws.{here, pairs_length, set_own}
use Rattle.cluster_world.proofs.SendingLaws.{enters_by, room_by}

-- ---- nothing is sent

noted_nothing : (st : State) (from : Party) → record st { watch = noted from [] st.watch } ≡ st
noted_nothing st from = ap (λ l. record st { watch = record st.watch { signed = l } }) (append-nil st.watch.signed)

nothing_fits : (pool : PoolValue) → IsWithin pool → HasRoomFor pool []
nothing_fits pool h =
    let few : length pool.posts ≤ pool.limits.messages = h.messages in
    let small : pool_bytes pool.posts ≤ pool.limits.bytes = h.bytes in
    record { few = omega arith; small = omega arith }

pub send_nothing : (s : Setup) (pool : PoolValue) (st : State) (from : Party) → IsWithin pool → pool.posts ≡ st.pool →
    pool.limits ≡ limits_of s → send s from [] [] st ≡ Ok st
send_nothing s pool st from room posts limits =
    let after : State = record st { watch = noted from [] st.watch } in
    enters_by s after [] (room_by s after pool from [] posts limits (nothing_fits pool room))
    ∙ ap (λ (x : State). Ok x) (noted_nothing st from)

-- a call that sends nothing
abbrev pub IsQuiet : ClientDone → Type 0
IsQuiet d = d ≡ quiet d.client

abbrev done_or : ClientDone → Result ClientDone CallFault → ClientDone
done_or other (Ok d) = d
done_or other (Err f) = other

same_done : (r : Result ClientDone CallFault) (a b : ClientDone) → r ≡ Ok a → r ≡ Ok b → a ≡ b
same_done r a b e f = ap (done_or a) (sym e ∙ f)

quiet_unless : (o : Option CallFault) (c : ClientValue) (d : ClientDone) → unless o (quiet c) ≡ Ok d → IsQuiet d
quiet_unless None c d e = subst IsQuiet (same_done (Ok (quiet c)) (quiet c) d refl e) refl
quiet_unless (Some f) c d e = absurd cc

pub quiet_begin : (c : ClientValue) (time : ℕ) (d : ClientDone) → call_begin c time ≡ Ok d → IsQuiet d
quiet_begin c time d e = quiet_unless _ (begin_done c time).client d e

pub quiet_write : (c : ClientValue) (slot : ℕ) (w : WritePart) (d : ClientDone) → call_write c slot w ≡ Ok d → IsQuiet d
quiet_write c slot w d e = by (slice_get c.slots slot) e
  where
    by : (o : Option SlotValue) → by_slot c (λ x. unless (write_fault x w) (write_done c slot w x)) o ≡ Ok d → IsQuiet d
    by None h = subst IsQuiet (same_done (Ok (quiet c)) (quiet c) d refl h) refl
    by (Some x) h = quiet_unless (write_fault x w) (write_done c slot w x).client d h

pub place_of : (place client : ℕ) → suc place ≡ client → client - 1 ≡ place
place_of place client e = omega (arith, e)

pub called_quiet : (s : Setup) (pool : PoolValue) (st : State) (client place : ℕ) (d : ClientDone) → suc place ≡ client → IsQuiet d →
    IsWithin pool → pool.posts ≡ st.pool → pool.limits ≡ limits_of s →
    called s client (Ok d) st ≡ Ok (with_client place d.client st)
called_quiet s pool st client place d number_of is room posts limits =
    ap (λ (x : ClientDone). send s (Client client) x.signed x.sent (record st { clients = slice_set st.clients (client - 1) d.client })) is
    ∙ send_nothing s pool (record st { clients = slice_set st.clients (client - 1) d.client }) (Client client) room posts limits
    ∙ ap (λ (n : ℕ). Ok (record st { clients = slice_set st.clients n d.client })) (place_of place client number_of)

-- ---- the slot of a begun transaction

abbrev held_by : BegunValue → ℕ → ℕ × ℕ
held_by b slot = (b.client, slot)

abbrev pub own_of : BegunValue → Option (ℕ × ℕ)
own_of b = option_map (held_by b) b.slot

-- a client holds a begun transaction in this slot
pub record IsOwn (begun : List BegunValue) (tx number place : ℕ) : Type 0 where
  pub b : BegunValue
  pub at : slice_get begun tx ≡ Some b
  pub client : b.client ≡ number
  pub slot : b.slot ≡ Some place

pub own_here : (begun : List BegunValue) (tx client slot : ℕ) → own_slot begun tx ≡ Some (client, slot) → IsOwn begun tx client slot
own_here begun tx client slot e = by (slice_get begun tx) refl e
  where
    by_slot : (b : BegunValue) → slice_get begun tx ≡ Some b → (p : Option ℕ) → b.slot ≡ p →
        option_map (held_by b) p ≡ Some (client, slot) → IsOwn begun tx client slot
    by_slot b at None q e = absurd cc
    by_slot b at (Some n) q e =
        let pair = same_Some (held_by b n) (held_by (record b { client = client }) slot) e in
        record { b = b; at = at; client = ap (λ (x : ℕ × ℕ). x.0) pair; slot = q ∙ ap (λ (x : ℕ × ℕ). Some x.1) pair }

    by : (o : Option BegunValue) → slice_get begun tx ≡ o → option_and_then own_of o ≡ Some (client, slot) → IsOwn begun tx client slot
    by None q e = absurd cc
    by (Some b) q e = by_slot b q b.slot refl e

pub slotless : (b : BegunValue) → own_of b ≡ None → b.slot ≡ None
slotless b e = by b.slot e
  where
    by : (p : Option ℕ) → option_map (held_by b) p ≡ None → p ≡ None
    by None e = refl
    by (Some n) e = absurd cc

-- ---- clients of the cluster

pub nobody_called : (s : Setup) (st : State) (client : ℕ) (call : ClientValue → Result ClientDone CallFault) →
    client_at st client ≡ None → by_client s client call st ≡ Ok st
nobody_called s st client call e = ap (λ o. at_client s client call o st) e

pub somebody_called : (s : Setup) (st : State) (client place : ℕ) (c : ClientValue) (call : ClientValue → Result ClientDone CallFault) →
    client_at st client ≡ slice_get st.clients place → slice_get st.clients place ≡ Some c →
    by_client s client call st ≡ called s client (call c) st
somebody_called s st client place c call there at = ap (λ o. at_client s client call o st) (there ∙ at)

module _ {V S : Type 0} (v : verifiers.Ghosts V) (g : signers.Ghosts S) (s : Setup) where
  -- a client is there
  pub caller : (core : Engine V S v g) (st : State) (place : ℕ) → Stands s core st → place < length core.clients.items →
      (c : ClientValue) × (slice_get st.clients place ≡ Some c)
  caller core st place h few =
      here st.clients place (subst (λ n. place < n) (pairs_length (IsCaller s) core.clients.items st.clients h.clients) few)

  -- ---- what an event comes to

  pub comes_as : (st : State) (core : Engine V S v g) (r : Result (Unit {0}) StepFault) (a b : Result State WorldFault) → a ≡ b →
      Comes s st b core r → Comes s st a core r
  comes_as st core r a b e h = subst (λ x. Comes s st x core r) (sym e) h

  -- nothing happens
  pub comes_same : (st : State) (core : Engine V S v g) (answer : Result State WorldFault) → answer ≡ Ok st → Shows s core st →
      Comes s st answer core (Ok tt)
  comes_same st core answer e h = (st, e, h)

  -- a refused call, or want of memory
  pub comes_refused : (st : State) (core : Engine V S v g) (answer : Result State WorldFault) (fault : CallFault) (e : StepFault) →
      (fault ≢ calls.NoMemory → answer ≡ Err (worlds.Call fault)) → Shows s core st → e ≡ step_fault_of fault →
      Comes s st answer core (Err e)
  comes_refused st core answer fault e h shows is = subst (λ x. Comes s st answer core (Err x)) (sym is) (by fault h)
    where
      by : (f : CallFault) → (f ≢ calls.NoMemory → answer ≡ Err (worlds.Call f)) → Comes s st answer core (Err (step_fault_of f))
      by (calls.TimeNotAbove t) h = (h (λ q. absurd cc), shows)
      by calls.NotOpen h = (h (λ q. absurd cc), shows)
      by calls.TooMany h = (h (λ q. absurd cc), shows)
      by calls.SizeOut h = (h (λ q. absurd cc), shows)
      by (calls.ReadPending key) h = (h (λ q. absurd cc), shows)
      by calls.Empty h = (h (λ q. absurd cc), shows)
      by calls.Exhausted h = (h (λ q. absurd cc), shows)
      by calls.NotPrepared h = (h (λ q. absurd cc), shows)
      by calls.NothingLogged h = (h (λ q. absurd cc), shows)
      by (calls.BadTransaction f) h = (h (λ q. absurd cc), shows)
      by calls.NoMemory h = tt

  -- ---- calls that send nothing

  module _ (old new : Engine V S v g) (st : State) (node : StandingClient V S v g) (place : ℕ)
      (own : new ≡ record old { clients = new.clients }) (set : new.clients.items ≡ slice_set old.clients.items place node)
      (h : Shows s old st) where
    same_posts : new.pool.posts ≡ st.pool
    same_posts = ap (λ (x : Engine V S v g). x.pool.posts) own ∙ h.posts

    pub client_shows : (c : ClientValue) → HoldsAs s (suc place) node c → Shows s new (with_client place c st)
    client_shows c one =
        record { stands = stands_client v g s old new st node place own set h.stands c one; posts = same_posts; seen = h.seen }

    pub calls_by : {A : Type 0} (c : ClientValue) (answer : Result ClientDone CallFault) (r : Result A CallFault) →
        slice_get st.clients place ≡ Some c → Called s (suc place) c answer r node → CallsAt s st place answer new r
    calls_by c answer (Ok x) at a = (a.0, a.1, client_shows a.0.client a.2)
    calls_by c answer (Err fault) at a = (
      a.0,
      record {
        stands = stands_kept v g s old new st node place own set h.stands c at a.1;
        posts = same_posts;
        seen = h.seen;
      },
    )

    -- a write
    pub written_calls : (c : ClientValue) (slot : ℕ) (w : Written) (part : WritePart) (r : Result (Unit {0}) CallFault) →
        written_value w ≡ part → slice_get st.clients place ≡ Some c → Called s (suc place) c (call_write c slot part) r node →
        CallsAt s st place (call_write c slot (written_value w)) new r
    written_calls c slot w part r e at a =
        subst (λ x. CallsAt s st place (call_write c slot x) new r) (sym e) (calls_by c (call_write c slot part) r at a)

  -- ---- begun transactions

  -- nothing but the begun transactions has changed
  pub stands_begun : (old new : Engine V S v g) (st : State) (begun : List BegunValue) → new ≡ record old { begun = new.begun } →
      new.begun.items ≡ begun → Stands s old st → Stands s new (record st { begun = begun })
  stands_begun old new st begun own is h =
      subst (λ c. Stands s c (record st { begun = begun })) (sym own)
      (record {
        members = h.members;
        earlier = h.earlier;
        sight = h.sight;
        pens = h.pens;
        replicas = h.replicas;
        clients = h.clients;
        begun = is;
        limits = h.limits;
        refused = h.refused;
      })

  pub shows_begun : (old new : Engine V S v g) (st : State) (begun : List BegunValue) → new ≡ record old { begun = new.begun } →
      new.begun.items ≡ begun → Shows s old st → Shows s new (record st { begun = begun })
  shows_begun old new st begun own is h =
      record {
        stands = stands_begun old new st begun own is h.stands;
        posts = ap (λ (x : Engine V S v g). x.pool.posts) own ∙ h.posts;
        seen = h.seen;
      }

  -- a begun transaction is another
  pub adds_by : (old new : Engine V S v g) (st : State) (tx : ℕ) (node after b : BegunValue)
      (answer : BegunValue → Result BegunValue CallFault) (r : Result (Unit {0}) CallFault) → new ≡ record old { begun = new.begun } →
      new.begun.items ≡ slice_set old.begun.items tx after → Shows s old st → slice_get old.begun.items tx ≡ Some node →
      slice_get st.begun tx ≡ Some b → OnOk r (answer node ≡ Ok after) → IfErr r (λ e. e ≢ calls.NoMemory → answer node ≡ Err e) →
      OnErr r (after ≡ node) → AddsTo s st tx (answer b) new r
  adds_by old new st tx node after b answer r own set h got at put refused same =
      subst (λ x. AddsTo s st tx (answer x) new r) (same_Some node b (sym own_at ∙ at)) (by r put refused same)
    where
      own_at : slice_get st.begun tx ≡ Some node
      own_at = ap (λ (l : List BegunValue). slice_get l tx) (sym h.stands.begun) ∙ got

      shown : Shows s new (set_begun tx after st)
      shown =
          shows_begun old new st (slice_set st.begun tx after) own
          (set ∙ ap (λ (l : List BegunValue). slice_set l tx after) h.stands.begun) h

      by : (r : Result (Unit {0}) CallFault) → OnOk r (answer node ≡ Ok after) → IfErr r (λ e. e ≢ calls.NoMemory → answer node ≡ Err e) →
          OnErr r (after ≡ node) → AddsTo s st tx (answer node) new r
      by (Ok done) put refused same = (after, put, shown)
      by (Err fault) put refused same = (
        refused,
        subst (λ l. Shows s new (record st { begun = l })) (set_own st.begun tx node own_at)
            (subst (λ x. Shows s new (set_begun tx x st)) same shown),
      )

  pub written_by : (old new : Engine V S v g) (st : State) (tx : ℕ) (node after b : BegunValue) (w : Written) (part : WritePart)
      (r : Result (Unit {0}) CallFault) → written_value w ≡ part → new ≡ record old { begun = new.begun } →
      new.begun.items ≡ slice_set old.begun.items tx after → Shows s old st → slice_get old.begun.items tx ≡ Some node →
      slice_get st.begun tx ≡ Some b → OnOk r (written part node ≡ Ok after) →
      IfErr r (λ e. e ≢ calls.NoMemory → written part node ≡ Err e) → OnErr r (after ≡ node) →
      AddsTo s st tx (written (written_value w) b) new r
  written_by old new st tx node after b w part r e own set h got at put refused same =
      subst (λ x. AddsTo s st tx (written x b) new r) (sym e)
      (adds_by old new st tx node after b (written part) r own set h got at put refused same)

  pub begun_here : (core : Engine V S v g) (st : State) (tx : ℕ) → Shows s core st → tx < length core.begun.items →
      (b : BegunValue) × (slice_get st.begun tx ≡ Some b)
  begun_here core st tx h few = here st.begun tx (subst (λ (l : List BegunValue). tx < length l) h.stands.begun few)

  -- what is added to a begun transaction
  pub comes_added : (st : State) (core : Engine V S v g) (tx : ℕ) (answer : Result State WorldFault) (adds : Result BegunValue CallFault) →
      answer ≡ after_adding tx st adds → (done : Unit {0}) → AddsTo s st tx adds core (Ok done) →
      Comes s st answer core (Ok done)
  comes_added st core tx answer adds e done a = (set_begun tx a.0 st, e ∙ ap (after_adding tx st) a.1, a.2)

  pub comes_not_added : (st : State) (core : Engine V S v g) (tx : ℕ) (answer : Result State WorldFault)
      (adds : Result BegunValue CallFault) (fault : CallFault) (e : StepFault) → answer ≡ after_adding tx st adds →
      AddsTo s st tx adds core (Err fault) → e ≡ step_fault_of fault → Comes s st answer core (Err e)
  comes_not_added st core tx answer adds fault e is a of =
      comes_refused st core answer fault e (λ n. is ∙ ap (after_adding tx st) (a.0 n)) a.1 of

  -- a call of a client that sends nothing
  pub comes_called : (st : State) (core : Engine V S v g) (pool : PoolValue) (client place : ℕ) (answer : Result State WorldFault)
      (called_on : Result ClientDone CallFault) → suc place ≡ client → answer ≡ called s client called_on st →
      ((d : ClientDone) → called_on ≡ Ok d → IsQuiet d) → IsWithin pool → pool.posts ≡ st.pool → pool.limits ≡ limits_of s →
      (done : Unit {0}) → CallsAt s st place called_on core (Ok done) → Comes s st answer core (Ok done)
  comes_called st core pool client place answer called_on number_of is quiet_by room posts limits done a = (
    with_client place a.0.client st,
    is ∙ ap (λ r. called s client r st) a.1
        ∙ called_quiet s pool st client place a.0 number_of (quiet_by a.0 a.1) room posts limits,
    a.2,
  )

  pub comes_not_called : (A : Type 0) (st : State) (core : Engine V S v g) (client place : ℕ) (answer : Result State WorldFault)
      (called_on : Result ClientDone CallFault) (before : State) (fault : CallFault) (e : StepFault) →
      answer ≡ called s client called_on before → CallsAt s st place {A = A} called_on core (Err fault) → e ≡ step_fault_of fault →
      Comes s st answer core (Err e)
  comes_not_called A st core client place answer called_on before fault e is a of =
      comes_refused st core answer fault e (λ n. is ∙ ap (λ r. called s client r before) (a.0 n)) a.1 of

  -- ---- begin

  pub began_faulty : (st : State) (client time : ℕ) (b : BegunValue) (core : Engine V S v g) → b ≡ begun_by client time None →
      Shows s core (with_begun b st) → Comes s st (Ok (with_begun (begun_by client time None) st)) core (Ok tt)
  began_faulty st client time b core is shows =
      (with_begun (begun_by client time None) st, refl, subst (λ x. Shows s core (with_begun x st)) is shows)

  pub began : (pool : PoolValue) (st : State) (client place time : ℕ) (c : ClientValue) (d : ClientDone) (slot : ℕ) (b : BegunValue)
      (core : Engine V S v g) → suc place ≡ client → call_begin c time ≡ Ok d → IsWithin pool → pool.posts ≡ st.pool →
      pool.limits ≡ limits_of s → slot ≡ length c.slots → b ≡ begun_by client time (Some slot) →
      Shows s core (with_begun b (with_client place d.client st)) → Comes s st (begins_in s client time (Some c) st) core (Ok tt)
  began pool st client place time c d slot b core number_of e room posts limits slot_is is shows =
      let held = begun_by client time (Some (length c.slots)) in (
        with_begun held (with_client place d.client st),
        ap (λ r. called s client r (with_begun held st)) e
            ∙ called_quiet s pool (with_begun held st) client place d number_of (quiet_begin c time d e) room posts limits,
        subst (λ x. Shows s core (with_begun x (with_client place d.client st)))
            (is ∙ ap (λ (n : ℕ). begun_by client time (Some n)) slot_is) shows,
      )

module _ (s : Setup) where
  pub begins_faulty : (st : State) (client time : ℕ) → is_faulty s (Client client) ≡ true →
      begins s client time st ≡ Ok (with_begun (begun_by client time None) st)
  begins_faulty st client time f =
      ap (λ b. cond b (Ok (with_begun (begun_by client time None) st)) (begins_in s client time (client_at st client) st)) f

  pub begins_correct : (st : State) (client time : ℕ) (o : Option ClientValue) → is_faulty s (Client client) ≡ false →
      client_at st client ≡ o →
      begins s client time st ≡ begins_in s client time o st
  begins_correct st client time o f e =
      ap (λ b. cond b (Ok (with_begun (begun_by client time None) st)) (begins_in s client time (client_at st client) st)) f
      ∙ ap (λ x. begins_in s client time x st) e

  -- ---- reads, writes and claims

  pub reads_as : (st : State) (tx client slot : ℕ) (key : List ℕ) → IsOwn st.begun tx client slot →
      at_tx tx (reads_at s key) st ≡ by_client s client (λ c. call_read (client_self s client) c slot key) st
  reads_as st tx client slot key own =
      ap (λ o. option_map_or (λ b. reads_at s key b st) o (Ok st)) own.at
      ∙ ap (λ o. option_map_or (λ n. by_client s own.b.client (λ c. call_read (client_self s own.b.client) c n key) st) o (Ok st)) own.slot
      ∙ ap (λ n. by_client s n (λ c. call_read (client_self s n) c slot key) st) own.client

  pub reads_none : (st : State) (tx : ℕ) (key : List ℕ) → own_slot st.begun tx ≡ None → at_tx tx (reads_at s key) st ≡ Ok st
  reads_none st tx key e = by (slice_get st.begun tx) e
    where
      by : (o : Option BegunValue) → option_and_then own_of o ≡ None → option_map_or (λ b. reads_at s key b st) o (Ok st) ≡ Ok st
      by None q = refl
      by (Some b) q =
          ap (λ o. option_map_or (λ n. by_client s b.client (λ c. call_read (client_self s b.client) c n key) st) o (Ok st)) (slotless b q)

  pub writes_as : (st : State) (tx client slot : ℕ) (w : WritePart) → IsOwn st.begun tx client slot →
      at_tx tx (writes_at s tx w) st ≡ by_client s client (λ c. call_write c slot w) st
  writes_as st tx client slot w own =
      ap (λ o. option_map_or (λ b. writes_at s tx w b st) o (Ok st)) own.at
      ∙ ap (λ o. option_map_or (λ n. by_client s own.b.client (λ c. call_write c n w) st) o
      (unless_formed own.b (write_fits w) (Ok (set_begun tx (record own.b { writes = put_write w own.b.writes }) st)))) own.slot
      ∙ ap (λ n. by_client s n (λ c. call_write c slot w) st) own.client

  pub writes_added : (st : State) (tx : ℕ) (w : WritePart) (b : BegunValue) → WritesAreAdded → own_slot st.begun tx ≡ None →
      slice_get st.begun tx ≡ Some b → at_tx tx (writes_at s tx w) st ≡ after_adding tx st (written w b)
  writes_added st tx w b law e at =
      ap (λ o. option_map_or (λ x. writes_at s tx w x st) o (Ok st)) at
      ∙ law s tx w b st (slotless b (sym (ap (λ o. option_and_then own_of o) at) ∙ e))

-- ---- claims

pub nothing_begun : (st : State) (tx : ℕ) (what : BegunValue → State → Result State WorldFault) → slice_get st.begun tx ≡ None →
    at_tx tx what st ≡ Ok st
nothing_begun st tx what e = ap (λ o. option_map_or (λ b. what b st) o (Ok st)) e

pub claims_named : (s : Setup) (st : State) (tx : ℕ) (key : List ℕ) (writer : Option ℕ) →
    events.happens s (events.Claim tx key writer) st ≡ at_tx tx (claims_at tx key (version_claimed st.begun writer)) st
claims_named s st tx key None = refl
claims_named s st tx key (Some writer) = refl

pub claims_none : (st : State) (tx : ℕ) (key : List ℕ) → at_tx tx (claims_at tx key None) st ≡ Ok st
claims_none st tx key = by (slice_get st.begun tx)
  where
    by : (o : Option BegunValue) → option_map_or (λ b. claims_at tx key None b st) o (Ok st) ≡ Ok st
    by None = refl
    by (Some b) = refl

pub claims_added : (st : State) (tx : ℕ) (key : List ℕ) (version : Version) (b : BegunValue) → ClaimsAreAdded →
    slice_get st.begun tx ≡ Some b → at_tx tx (claims_at tx key (Some version)) st ≡ after_adding tx st (claimed key version b)
claims_added st tx key version b law at =
    ap (λ o. option_map_or (λ x. claims_at tx key (Some version) x st) o (Ok st)) at ∙ law tx key version b st
