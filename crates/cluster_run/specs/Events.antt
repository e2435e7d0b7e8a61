-- Events, what each does, and the fold over a list of them.
use Rattle.std.specs.Prelude.{ℕ, ◌-◌, List, [], ◌∷◌, ◌++◌, Bool, false, ◌&&◌, ◌==◌, Option}
use Rattle.std.specs.Prelude.{Some, None, option_map, option_and_then, Result, Ok, Err}
use Rattle.std.specs.Prelude.{slice_get, slice_set, length, is_some, nat_lt, if◌then◌else◌}
use Rattle.std.specs.Option.{option_map_or}
use Rattle.node_steps.specs.Lists.{by_key, put}
use Rattle.node_steps.specs.Refusing.{unless_refused}
use Rattle.basil_types.specs.Limits.{most_keys}
use Rattle.basil_types.specs.Built.{built, key_fits, write_fits}
use Rattle.basil_types.specs.Steps.{◌>>=◌}
use Rattle.basil_types.specs.declared.party.Party.{Party}
use Rattle.basil_types.specs.declared.party.Party.TheVariants.{Replica, Client}
use Rattle.basil_types.specs.declared.party.Decision.{Decision}
use Rattle.basil_types.specs.declared.transaction.parts.ReadPart.{ReadPart}
use Rattle.basil_types.specs.declared.transaction.parts.WritePart.{WritePart}
use Rattle.basil_types.specs.declared.version.Version.{Version}
use Rattle.basil_types.specs.Version.{genesis}
use Rattle.basil_types.specs.Transaction.{id, version_of, key_of_read}
use Rattle.basil_types.specs.Words.{TransactionWords}
use Rattle.client_steps.specs.declared.fault.CallFault.{CallFault}
use Rattle.client_steps.specs.declared.fault.CallFault.TheVariants.{NotOpen, TooMany, SizeOut, Empty, NotPrepared}
use Rattle.client_core.specs.Calls.{call_begin, call_read, call_write}
use Rattle.client_core.specs.Calls.{call_prepare, call_settle, call_recover, call_invoke}
use Rattle.client_core.specs.Clients.{ClientValue, ClientDone, SlotValue}
use Rattle.client_recover.specs.Taken.{PursuitValue}
use Rattle.client_recover.specs.Pursuits.{to_involved}
use Rattle.client_core.specs.Slots.{put_write, slot_of_id}
use Rattle.frame_views.specs.Values.{St1}
use Rattle.message_pool.specs.declared.posted.Fate.{Fate}
pub use Rattle.message_pool.specs.Posts.{lost}
use Rattle.premise_watch.specs.declared.broken.Broken.{Broken}
use Rattle.cluster_run.specs.declared.fault.WorldFault.{WorldFault}
use Rattle.cluster_run.specs.declared.fault.WorldFault.TheVariants as fault
use Rattle.cluster_run.specs.States.{Setup, is_faulty, Posted, Delivered, BegunValue, FormedValue}
use Rattle.cluster_run.specs.States.{Standing, put_standing, standing, client_at, posted_at, State}
use Rattle.cluster_run.specs.Parts.{see, enter, send, hand, client_self}
use Rattle.cluster_run.specs.Faulty.{faulty_signature, after_lie, has_left, lies, faulty_vote}
use Rattle.cluster_run.specs.Faulty.{faulty_reply, faulty_word, faulty_proposal, faulty_second}

-- What a schedule's lines do. Transactions are numbered from 0 as they begin, messages from 1 as they enter the pool.
pub data EventValue : Type 0 where
  -- calls of clients; a claim is the read of a faulty one, at the version of a formed transaction or at genesis
  Begin : (client time : ℕ) → EventValue
  Read : (tx : ℕ) (key : List ℕ) → EventValue
  Write : (tx : ℕ) (write : WritePart) → EventValue
  Claim : (tx : ℕ) (key : List ℕ) (writer : Option ℕ) → EventValue
  Prepare : (tx : ℕ) → EventValue
  Settle : (tx client : ℕ) → EventValue
  Recover : (tx client : ℕ) → EventValue
  Invoke : (tx client : ℕ) → EventValue
  -- a message is delivered to its receiver, lost, or delivered to another; the node is handed the bytes that are given
  Deliver : (message : ℕ) (given : List ℕ) → EventValue
  Lose : (message : ℕ) → EventValue
  Divert : (message : ℕ) (to : Party) (given : List ℕ) → EventValue
  -- a replica's clock is set
  Clock : (shard replica moment : ℕ) → EventValue
  -- a faulty party signs and sends
  Vote : (shard replica tx : ℕ) (decision : Decision) (client : ℕ) → EventValue
  Second : (tx : ℕ) (decision : Decision) (replica : ℕ) → EventValue
  Logged : (shard replica tx : ℕ) (decision : Decision) (decided current client : ℕ) → EventValue
  Elect : (shard replica tx : ℕ) (decision : Decision) (view : ℕ) → EventValue
  Decide : (shard replica tx : ℕ) (decision : Decision) (view to : ℕ) → EventValue
  -- a frame enters the pool, or is shown to nobody
  Raw : (from to : Party) (frame : List ℕ) → EventValue
  Show : (frame : List ℕ) → EventValue

-- ---- calls of correct clients

abbrev pub called : Setup → (client : ℕ) → Result ClientDone CallFault → State → Result State WorldFault
called s client (Ok d) st =
    send s (Client client) d.signed d.sent (record st { clients = slice_set st.clients (client - 1) d.client })
called s client (Err f) st = Err (fault.Call f)

abbrev pub at_client : Setup → (client : ℕ) → (ClientValue → Result ClientDone CallFault) → Option ClientValue → State →
    Result State WorldFault
at_client s client call None st = Ok st
at_client s client call (Some c) st = called s client (call c) st

abbrev pub by_client : Setup → (client : ℕ) → (ClientValue → Result ClientDone CallFault) → State →
    Result State WorldFault
by_client s client call st = at_client s client call (client_at st client) st

-- ---- begun transactions

abbrev pub begun_by : (client time : ℕ) → Option ℕ → BegunValue
begun_by client time slot = record { client = client; time = time; slot = slot; reads = []; writes = []; formed = None }

abbrev pub with_begun : BegunValue → State → State
with_begun b st = record st { begun = st.begun ++ b ∷ [] }

abbrev pub begins_in : Setup → (client time : ℕ) → Option ClientValue → State → Result State WorldFault
begins_in s client time None st = Ok st
begins_in s client time (Some c) st =
    called s client (call_begin c time) (with_begun (begun_by client time (Some (length c.slots))) st)

abbrev pub begins : Setup → (client time : ℕ) → State → Result State WorldFault
begins s client time st =
    if is_faulty s (Client client) then Ok (with_begun (begun_by client time None) st)
    else begins_in s client time (client_at st client) st

abbrev pub set_begun : ℕ → BegunValue → State → State
set_begun tx b st = record st { begun = slice_set st.begun tx b }

-- of a transaction that isn't begun nothing happens
abbrev pub at_tx : ℕ → (BegunValue → State → Result State WorldFault) → State → Result State WorldFault
at_tx tx what st = option_map_or (λ b. what b st) (slice_get st.begun tx) (Ok st)

-- of a formed one
abbrev pub at_formed : ℕ → (FormedValue → State → Result State WorldFault) → State → Result State WorldFault
at_formed tx what st =
    option_map_or (λ f. what f st) (option_and_then (λ (b : BegunValue). b.formed) (slice_get st.begun tx)) (Ok st)

abbrev pub reads_at : Setup → List ℕ → BegunValue → State → Result State WorldFault
reads_at s key b st =
    option_map_or (λ slot. by_client s b.client (λ c. call_read (client_self s b.client) c slot key) st) b.slot (Ok st)

-- what is added to a faulty client's transaction has a good size
abbrev pub unless_formed : BegunValue → (fits : Bool) → Result State WorldFault → Result State WorldFault
unless_formed b fits answer =
    if is_some b.formed then Err (fault.Call NotOpen) else if fits then answer else Err (fault.Call SizeOut)

abbrev pub writes_at : Setup → ℕ → WritePart → BegunValue → State → Result State WorldFault
writes_at s tx w b st =
    option_map_or (λ slot. by_client s b.client (λ c. call_write c slot w) st) b.slot
    (unless_formed b (write_fits w) (Ok (set_begun tx (record b { writes = put_write w b.writes }) st)))

abbrev pub put_claim : ReadPart → List ReadPart → List ReadPart
put_claim r reads = put (by_key key_of_read) r reads

abbrev pub formed_version : State → ℕ → Option Version
formed_version st tx =
    option_map (λ (f : FormedValue). version_of f.transaction)
    (option_and_then (λ (b : BegunValue). b.formed) (slice_get st.begun tx))

abbrev pub claims_at : ℕ → List ℕ → Option Version → BegunValue → State → Result State WorldFault
claims_at tx key None b st = Ok st
claims_at tx key (Some v) b st =
    let read : ReadPart = record { key = key; version = v; dependency = false } in
    unless_formed b (key_fits key) (Ok (set_begun tx (record b { reads = put_claim read b.reads }) st))

-- ---- prepare

abbrev pub formed_in : ℕ → ClientDone → Option FormedValue
formed_in slot d =
    option_map (λ (p : PursuitValue). record { transaction = p.transaction; signature = p.signature })
    (option_and_then (λ (s : SlotValue). s.pursuit) (slice_get d.client.slots slot))

abbrev pub prepared_by : Setup → ℕ → BegunValue → ℕ → Result ClientDone CallFault → State → Result State WorldFault
prepared_by s tx b slot (Ok d) st = called s b.client (Ok d) (set_begun tx (record b { formed = formed_in slot d }) st)
prepared_by s tx b slot (Err f) st = Err (fault.Call f)

abbrev pub prepares_own : Setup → ℕ → BegunValue → ℕ → State → Result State WorldFault
prepares_own s tx b slot st =
    option_map_or (λ c. prepared_by s tx b slot (call_prepare (client_self s b.client) c slot) st)
    (client_at st b.client) (Ok st)

-- a faulty client forms what it likes, and signs it
abbrev pub prepare_fault : Setup → BegunValue → State → Option WorldFault
prepare_fault s b st =
    if is_some b.formed then Some (fault.Call NotOpen)
    else if nat_lt most_keys (length b.reads) then Some (fault.Call TooMany)
    else if nat_lt most_keys (length b.writes) then Some (fault.Call TooMany)
    else if (length b.reads == 0) && (length b.writes == 0) then Some (fault.Call Empty)
    else if has_left s st (Client b.client) then None else Some (fault.Exhausted (Client b.client))

abbrev pub prepares_lie : Setup → ℕ → BegunValue → State → Result State WorldFault
prepares_lie s tx b st =
    let t = built b.time b.client b.reads b.writes in
    let words = TransactionWords (id t) in
    let f : FormedValue = record { transaction = t; signature = faulty_signature s st (Client b.client) words } in
    send s (Client b.client) []
    (to_involved s.cluster t (St1 (record { transaction = t; signature = f.signature })))
    (set_begun tx (record b { formed = Some f }) (after_lie st (Client b.client) words))

abbrev pub prepares_at : Setup → ℕ → BegunValue → State → Result State WorldFault
prepares_at s tx b st =
    option_map_or (λ slot. prepares_own s tx b slot st) b.slot
    (unless_refused (prepare_fault s b st) (prepares_lie s tx b st))

-- ---- settle, recover, invoke

-- of a transaction that the client doesn't hold
abbrev pub held_call : Option ℕ → (ℕ → Result ClientDone CallFault) → Result ClientDone CallFault
held_call None call = Err NotPrepared
held_call (Some slot) call = call slot

abbrev pub settles_at : Setup → (client : ℕ) → FormedValue → State → Result State WorldFault
settles_at s client f st =
    by_client s client (λ c. held_call (slot_of_id c (id f.transaction)) (call_settle (client_self s client) c)) st

abbrev pub invokes_at : Setup → (client : ℕ) → FormedValue → State → Result State WorldFault
invokes_at s client f st =
    by_client s client (λ c. held_call (slot_of_id c (id f.transaction)) (call_invoke (client_self s client) c)) st

abbrev pub recovers_at : Setup → (client : ℕ) → FormedValue → State → Result State WorldFault
recovers_at s client f st = by_client s client (λ c. call_recover (client_self s client) c f.transaction f.signature) st

-- ---- messages

abbrev pub marked : ℕ → Fate → Posted → State → State
marked place fate p st = record st { pool = slice_set st.pool place (record p { fate = fate }) }

abbrev pub at_message : ℕ → (Posted → State → Result State WorldFault) → State → Result State WorldFault
at_message message what st = option_map_or (λ p. what p st) (posted_at st message) (Ok st)

abbrev pub ticks : (moment : ℕ) → Option Standing → State → State
ticks moment None st = st
ticks moment (Some x) st = record st { replicas = put_standing (record x { moment = moment }) st.replicas }

-- ---- one event

abbrev pub happens : Setup → EventValue → State → Result State WorldFault
happens s (Begin client time) st = begins s client time st
happens s (Read tx key) st = at_tx tx (reads_at s key) st
happens s (Write tx w) st = at_tx tx (writes_at s tx w) st
happens s (Claim tx key None) st = at_tx tx (claims_at tx key (Some genesis)) st
happens s (Claim tx key (Some writer)) st = at_tx tx (claims_at tx key (formed_version st writer)) st
happens s (Prepare tx) st = at_tx tx (prepares_at s tx) st
happens s (Settle tx client) st = at_formed tx (settles_at s client) st
happens s (Recover tx client) st = at_formed tx (recovers_at s client) st
happens s (Invoke tx client) st = at_formed tx (invokes_at s client) st
happens s (Deliver message given) st =
    at_message message (λ p st. hand s message p.from p.to given (marked (message - 1) Delivered p st)) st
happens s (Lose message) st = at_message message (λ p st. Ok (marked (message - 1) (lost p.fate) p st)) st
happens s (Divert message to given) st = at_message message (λ p st. hand s message p.from to given st) st
happens s (Clock shard r moment) st = Ok (ticks moment (standing st shard r) st)
happens s (Vote shard r tx d client) st =
    at_formed tx (λ f st. lies s (Replica shard r) (faulty_vote s shard r f.transaction d client st) st) st
happens s (Second tx d r) st = at_formed tx (λ f st. enter s (faulty_second s f d r st) st) st
happens s (Logged shard r tx d decided current client) st =
    at_formed tx
    (λ f st. lies s (Replica shard r) (faulty_reply s shard r f.transaction d decided current client st) st) st
happens s (Elect shard r tx d view) st =
    at_formed tx (λ f st. lies s (Replica shard r) (faulty_word s shard r f.transaction d view st) st) st
happens s (Decide shard r tx d view to) st =
    at_formed tx (λ f st. lies s (Replica shard r) (faulty_proposal s shard r f.transaction d view to st) st) st
happens s (Raw from to frame) st = enter s (record { from = from; to = to; frame = frame } ∷ []) st
happens s (Show frame) st = see s frame st

-- ---- the run

-- a refused event changes nothing; a breach ends the run
abbrev pub kept : State → Result State WorldFault → Result State Broken
kept st (Ok after) = Ok after
kept st (Err (fault.Broken b)) = Err b
kept st (Err (fault.PoolFull messages bytes)) = Ok st
kept st (Err (fault.Call f)) = Ok st
kept st (Err (fault.Exhausted party)) = Ok st

abbrev pub run : Setup → List EventValue → State → Result State Broken
run s [] st = Ok st
run s (e ∷ es) st = kept st (happens s e st) >>= run s es
