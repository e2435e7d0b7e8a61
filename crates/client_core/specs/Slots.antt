-- What a client holds, by slot, by time and by id, and what a read gave.
use Rattle.std.specs.Prelude.{ℕ, List, [], ◌∷◌, Bool, false, not, ◌==◌, ◌&&◌, Option, Some, None, option_map}
use Rattle.std.specs.Prelude.{option_and_then, position, find, slice_set, map, nat_le, length, if◌then◌else◌}
use Rattle.std.specs.Option.{option_map_or}
use Rattle.std.specs.Str.{bytes_eq}
use Rattle.basil_types.specs.Built.{or_else}
use Rattle.basil_types.specs.declared.transaction.parts.ReadPart.{ReadPart}
use Rattle.basil_types.specs.declared.transaction.parts.WritePart.{WritePart}
use Rattle.basil_types.specs.declared.version.Version.{Version}
use Rattle.basil_types.specs.Setting.{Setting}
use Rattle.basil_types.specs.Transaction.{TransactionValue, id, version_of, key_of_write}
use Rattle.basil_types.specs.Version.{genesis, same_version}
use Rattle.client_reads.specs.Choosing.{choice}
use Rattle.client_reads.specs.Versions.{carried_versions}
use Rattle.client_reads.specs.declared.choice.Choice.{Choice}
use Rattle.client_recover.specs.Counting.{replies_held}
use Rattle.client_recover.specs.Pursuits.{outcome, signed_part}
use Rattle.client_recover.specs.Taken.{PursuitValue, DecidedValue}
use Rattle.frame_views.specs.Values.{ReadReplyValue, CommittedValue, SignedValue}
use Rattle.node_steps.specs.Lists.{by_key, put}
use Rattle.client_core.specs.Clients.{AskedRead, SlotValue, ClientValue}

-- ---- reads and writes, ascending by key

abbrev pub is_of : List ℕ → AskedRead → Bool
is_of key r = bytes_eq r.key key

abbrev pub asked : List ℕ → SlotValue → Option AskedRead
asked key s = find (is_of key) s.reads

abbrev pub key_asked : AskedRead → List ℕ
key_asked r = r.key

-- in the place of an earlier one of its key
abbrev pub put_read : AskedRead → List AskedRead → List AskedRead
put_read r reads = put (by_key key_asked) r reads

abbrev pub put_write : WritePart → List WritePart → List WritePart
put_write w writes = put (by_key key_of_write) w writes

-- ---- the choice of a read, which is made with the first replies

abbrev pub is_chosen : Setting → AskedRead → Bool
is_chosen c r = nat_le c.reads (length r.replies)

abbrev pub choice_of : Setting → AskedRead → Choice
choice_of c r = choice c (map carried_versions r.replies)

abbrev pub as_read : Setting → AskedRead → ReadPart
as_read c r = record { key = r.key; version = (choice_of c r).version; dependency = (choice_of c r).dependency }

-- ---- what a read tells

pub data ReadStateValue : Type 0 where
  NotRead : ReadStateValue
  Pending : ReadStateValue
  Absent : ReadStateValue
  Found : (writer : Version) (value : List ℕ) → ReadStateValue
  Deleted : (writer : Version) → ReadStateValue
  Own : (value : List ℕ) → ReadStateValue
  OwnDeleted : ReadStateValue

abbrev pub of_version : Version → Option TransactionValue → Option TransactionValue
of_version v None = None
of_version v (Some t) = if same_version (version_of t) v then Some t else None

-- the transaction of this version that a reply carries
abbrev pub carried_of : Version → ReadReplyValue → Option TransactionValue
carried_of v r =
    or_else (of_version v (option_map (λ (p : CommittedValue). p.transaction) r.committed)) (of_version v r.prepared)

-- of the first reply that carries one
abbrev pub carrier : Version → List ReadReplyValue → Option TransactionValue
carrier v [] = None
carrier v (r ∷ rs) = or_else (carried_of v r) (carrier v rs)

abbrev pub write_in : List ℕ → List WritePart → Option WritePart
write_in key writes = find (λ (w : WritePart). bytes_eq w.key key) writes

abbrev pub write_of : List ℕ → TransactionValue → Option WritePart
write_of key t = write_in key t.writes

abbrev pub found_by : Version → Option WritePart → ReadStateValue
found_by v None = Absent
found_by v (Some w) = if w.deletes then Deleted v else Found v w.value

abbrev pub chosen_write : Setting → AskedRead → Option WritePart
chosen_write c r = option_and_then (write_of r.key) (carrier (choice_of c r).version r.replies)

abbrev pub read_state : Setting → AskedRead → ReadStateValue
read_state c r =
    if not (is_chosen c r) then Pending
    else if same_version (choice_of c r).version genesis then Absent
    else found_by (choice_of c r).version (chosen_write c r)

abbrev pub own_state : Option WritePart → ReadStateValue
own_state None = NotRead
own_state (Some w) = if w.deletes then OwnDeleted else Own w.value

-- what was read, also where the key was written later; otherwise what was written
abbrev pub value : Setting → SlotValue → List ℕ → ReadStateValue
value c s key = option_map_or (read_state c) (asked key s) (own_state (write_in key s.writes))

-- ---- what a slot tells

-- the transaction and its client's signature, once it is formed
abbrev pub formed_in : SlotValue → Option SignedValue
formed_in s = option_map signed_part s.pursuit

-- the votes and log replies that count, none before it is formed
abbrev pub held_in : SlotValue → ℕ
held_in s = option_map_or (λ (p : PursuitValue). replies_held p.taken) s.pursuit 0

abbrev pub outcome_in : Setting → SlotValue → Option DecidedValue
outcome_in c s = option_and_then (outcome c) s.pursuit

-- ---- slots

-- the most that a client holds
abbrev pub most_slots : ℕ
most_slots = 4294967295

abbrev pub is_named : List ℕ → SlotValue → Bool
is_named named s = option_map_or (λ (p : PursuitValue). bytes_eq named (id p.transaction)) s.pursuit false

-- the slot of a formed transaction
abbrev pub slot_of_id : ClientValue → List ℕ → Option ℕ
slot_of_id client named = position (is_named named) client.slots

-- the slot that the client began at this time; a recovered one wasn't begun
abbrev pub is_begun_at : ℕ → SlotValue → Bool
is_begun_at time s = s.begun && (s.time == time)

abbrev pub slot_of_time : ClientValue → ℕ → Option ℕ
slot_of_time client time = position (is_begun_at time) client.slots

abbrev pub with_slot : ClientValue → ℕ → SlotValue → ClientValue
with_slot client place s = record client { slots = slice_set client.slots place s }

abbrev pub with_pursuit : SlotValue → PursuitValue → SlotValue
with_pursuit s p = record s { pursuit = Some p }
