-- A client's calls (Basil, execution phase, recovery).
use Rattle.std.specs.Prelude.{ℕ, ◌++◌, List, [], ◌∷◌, Bool, true, false, not, ◌&&◌, ◌||◌, ◌==◌}
use Rattle.std.specs.Prelude.{Option, Some, None, option_map, option_and_then, Result, Ok, Err}
use Rattle.std.specs.Prelude.{find, slice_get, is_some, map, nat_lt, nat_le, length, if◌then◌else◌}
use Rattle.std.specs.List.{list_any}
use Rattle.std.specs.Option.{option_map_or}
use Rattle.std.specs.Str.{bytes_eq}
use Rattle.basil_types.specs.Limits.{most_keys}
use Rattle.basil_types.specs.Built.{or_else, built, key_fits, write_fits}
use Rattle.basil_types.specs.declared.transaction.parts.WritePart.{WritePart}
use Rattle.basil_types.specs.Setting.{Setting}
use Rattle.basil_types.specs.Transaction.{TransactionValue, id}
use Rattle.basil_types.specs.Words.{TransactionWords, words_of}
use Rattle.client_recover.specs.Owned.{unstarted}
use Rattle.client_recover.specs.Counting.{replies_of}
use Rattle.client_recover.specs.Pursuits.{PursuitDone, to_shard, to_involved, to_log_shard}
use Rattle.client_recover.specs.Pursuits.{signed_part, invoke_message, settle, outcome}
use Rattle.client_recover.specs.Taken.{PursuitValue}
use Rattle.frame_views.specs.Values.{Read, St1, Recover}
use Rattle.node_steps.specs.Pens.{after_one}
use Rattle.node_steps.specs.Refusing.{when, unless}
use Rattle.txn_meta.specs.Form.{form_fault}
use Rattle.txn_meta.specs.Places.{shard_of}
use Rattle.client_steps.specs.declared.fault.CallFault.{CallFault}
use Rattle.client_steps.specs.declared.fault.CallFault.TheVariants.{TimeNotAbove, NotOpen, TooMany}
use Rattle.client_steps.specs.declared.fault.CallFault.TheVariants.{SizeOut, ReadPending, Empty}
use Rattle.client_steps.specs.declared.fault.CallFault.TheVariants.{Exhausted, NotPrepared}
use Rattle.client_steps.specs.declared.fault.CallFault.TheVariants.{NothingLogged, BadTransaction}
use Rattle.client_core.specs.Clients.{ClientSelf, AskedRead, SlotValue, ClientValue, ClientDone, quiet}
use Rattle.client_core.specs.Slots.{asked, put_read, put_write, is_chosen, as_read, slot_of_id, with_slot, with_pursuit}

-- the call on a slot; of one that isn't held nothing happens
abbrev pub by_slot :
    ClientValue → (SlotValue → Result ClientDone CallFault) → Option SlotValue → Result ClientDone CallFault
by_slot client answer None = Ok (quiet client)
by_slot client answer (Some s) = answer s

abbrev pub at_slot : ClientValue → ℕ → (SlotValue → Result ClientDone CallFault) → Result ClientDone CallFault
at_slot client place answer = by_slot client answer (slice_get client.slots place)

-- ---- begin

abbrev pub begun_slot : ℕ → SlotValue
begun_slot time = record { begun = true; time = time; reads = []; writes = []; pursuit = None }

abbrev pub begin_done : ClientValue → ℕ → ClientDone
begin_done client time = quiet (record client { last = time; slots = client.slots ++ begun_slot time ∷ [] })

abbrev pub call_begin : ClientValue → ℕ → Result ClientDone CallFault
call_begin client time =
    unless (when (not (nat_lt client.last time)) (TimeNotAbove client.last)) (begin_done client time)

-- ---- read

abbrev pub is_written : List ℕ → SlotValue → Bool
is_written key s = list_any (λ (w : WritePart). bytes_eq w.key key) s.writes

abbrev pub read_fault : SlotValue → List ℕ → Option CallFault
read_fault s key =
    or_else (when (nat_le most_keys (length s.reads)) TooMany) (when (not (key_fits key)) SizeOut)

-- every replica of the key's shard is asked
abbrev pub read_done : ClientSelf → ClientValue → ℕ → SlotValue → List ℕ → ClientDone
read_done me client place s key =
    let read : AskedRead = record { key = key; replies = [] } in
    let asks = Read (record { key = key; time = s.time; client = me.number }) in
    record {
      client = with_slot client place (record s { reads = put_read read s.reads });
      signed = [];
      sent = to_shard me.cluster asks (shard_of me.cluster key);
    }

-- a key that was written or asked for isn't asked for again
abbrev pub read_at : ClientSelf → ClientValue → ℕ → List ℕ → SlotValue → Result ClientDone CallFault
read_at me client place key s =
    if is_some s.pursuit then Err NotOpen
    else if is_written key s || is_some (asked key s) then Ok (quiet client)
    else unless (read_fault s key) (read_done me client place s key)

abbrev pub call_read : ClientSelf → ClientValue → ℕ → List ℕ → Result ClientDone CallFault
call_read me client place key = at_slot client place (read_at me client place key)

-- ---- write or delete

abbrev pub write_fault : SlotValue → WritePart → Option CallFault
write_fault s w =
    or_else (when (is_some s.pursuit) NotOpen)
    (or_else (when (not (is_written w.key s) && nat_le most_keys (length s.writes)) TooMany)
    (when (not (write_fits w)) SizeOut))

abbrev pub write_done : ClientValue → ℕ → WritePart → SlotValue → ClientDone
write_done client place w s = quiet (with_slot client place (record s { writes = put_write w s.writes }))

abbrev pub call_write : ClientValue → ℕ → WritePart → Result ClientDone CallFault
call_write client place w = at_slot client place (λ s. unless (write_fault s w) (write_done client place w s))

-- ---- prepare

-- the least key of which a read has no choice yet
abbrev pub pending : Setting → SlotValue → Option CallFault
pending c s = option_map (λ (r : AskedRead). ReadPending r.key) (find (λ r. not (is_chosen c r)) s.reads)

abbrev pub prepare_fault : ClientSelf → ClientValue → SlotValue → Option CallFault
prepare_fault me client s =
    or_else (when (is_some s.pursuit) NotOpen)
    (or_else (pending me.cluster s)
    (or_else (when ((length s.reads == 0) && (length s.writes == 0)) Empty)
    (when (client.pen.left == 0) Exhausted)))

abbrev pub formed : ClientSelf → SlotValue → TransactionValue
formed me s = built s.time me.number (map (as_read me.cluster) s.reads) s.writes

-- the transaction is formed and signed, and goes to every replica of every involved shard
abbrev pub prepare_done : ClientSelf → ClientValue → ℕ → SlotValue → ClientDone
prepare_done me client place s =
    let t = formed me s in
    let words = TransactionWords (id t) in
    let p = unstarted t (me.signing.gives client.pen.spent (words_of words)) in
    record {
      client = record (with_slot client place (with_pursuit s p)) { pen = after_one client.pen };
      signed = words ∷ [];
      sent = to_involved me.cluster t (St1 (signed_part p));
    }

abbrev pub call_prepare : ClientSelf → ClientValue → ℕ → Result ClientDone CallFault
call_prepare me client place =
    at_slot client place (λ s. unless (prepare_fault me client s) (prepare_done me client place s))

-- ---- settle

abbrev pub pursuit_done : ClientValue → ℕ → SlotValue → PursuitDone → ClientDone
pursuit_done client place s d =
    record { client = with_slot client place (with_pursuit s d.pursuit); signed = []; sent = d.sent }

abbrev pub settle_by : ClientSelf → ClientValue → ℕ → SlotValue → Option PursuitValue → Result ClientDone CallFault
settle_by me client place s None = Err NotPrepared
settle_by me client place s (Some p) = Ok (pursuit_done client place s (settle me.cluster p))

abbrev pub call_settle : ClientSelf → ClientValue → ℕ → Result ClientDone CallFault
call_settle me client place = at_slot client place (λ s. settle_by me client place s s.pursuit)

-- ---- recover

-- recover frames go to every replica of every involved shard, also where an outcome is held
abbrev pub recover_held : ClientSelf → ClientValue → Option PursuitValue → ClientDone
recover_held me client None = quiet client
recover_held me client (Some p) =
    record { client = client; signed = []; sent = to_involved me.cluster p.transaction (Recover (signed_part p)) }

abbrev pub recovered_slot : TransactionValue → List ℕ → SlotValue
recovered_slot t signature =
    record { begun = false; time = t.time; reads = []; writes = []; pursuit = Some (unstarted t signature) }

abbrev pub with_recovered : ClientValue → TransactionValue → List ℕ → ClientValue
with_recovered client t signature = record client { slots = client.slots ++ recovered_slot t signature ∷ [] }

-- a held id keeps its slot
abbrev pub recover_by : ClientSelf → ClientValue → TransactionValue → List ℕ → Option ℕ → ClientDone
recover_by me client t signature (Some place) =
    recover_held me client (option_and_then (λ (s : SlotValue). s.pursuit) (slice_get client.slots place))
recover_by me client t signature None =
    recover_held me (with_recovered client t signature) (Some (unstarted t signature))

abbrev pub call_recover : ClientSelf → ClientValue → TransactionValue → List ℕ → Result ClientDone CallFault
call_recover me client t signature =
    unless (option_map BadTransaction (form_fault t)) (recover_by me client t signature (slot_of_id client (id t)))

-- the slot that the call answers
abbrev pub recovered_at : ClientValue → TransactionValue → ℕ
recovered_at client t = option_map_or (λ (place : ℕ). place) (slot_of_id client (id t)) (length client.slots)

-- ---- invoke

abbrev pub invoke_fault : ClientSelf → PursuitValue → Option CallFault
invoke_fault me p = when (length (replies_of p.taken) == 0) NothingLogged

abbrev pub invoke_done : ClientSelf → ClientValue → PursuitValue → ClientDone
invoke_done me client p =
    record { client = client; signed = []; sent = to_log_shard me.cluster p.transaction (invoke_message me.cluster p) }

-- once an outcome is held nothing is invoked
abbrev pub invoke_by : ClientSelf → ClientValue → Option PursuitValue → Result ClientDone CallFault
invoke_by me client None = Err NotPrepared
invoke_by me client (Some p) =
    if is_some (outcome me.cluster p) then Ok (quiet client) else unless (invoke_fault me p) (invoke_done me client p)

abbrev pub call_invoke : ClientSelf → ClientValue → ℕ → Result ClientDone CallFault
call_invoke me client place = at_slot client place (λ s. invoke_by me client s.pursuit)
