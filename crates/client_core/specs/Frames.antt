-- Which frames a client takes (Basil, stages 1 and 2, reads).
use Rattle.std.specs.Prelude.{ℕ, ◌++◌, List, [], ◌∷◌, ◌==◌, Option, Some, None, option_map}
use Rattle.std.specs.Prelude.{option_and_then, Result, Err, slice_get, if◌then◌else◌}
use Rattle.std.specs.List.{list_any}
use Rattle.basil_types.specs.Transaction.{TransactionValue, id}
use Rattle.certificates.specs.declared.fault.FrameFault.{FrameFault}
use Rattle.certificates.specs.declared.fault.FrameFault.TheVariants.{NotMine}
use Rattle.client_reads.specs.Replies.{reply_fault}
use Rattle.client_recover.specs.Faults.{vote_fault, log_fault, writeback_fault}
use Rattle.client_recover.specs.Pursuits.{take_frame}
use Rattle.client_recover.specs.Taken.{PursuitValue, TakenValue, TakenVote, TakenLog, TakenCertificate}
use Rattle.frame_views.specs.Values.{ReadValue, ReadReplyValue, VotedValue, LogReplyValue, WritebackValue}
use Rattle.node_steps.specs.Refusing.{unless}
use Rattle.client_core.specs.Calls.{pursuit_done}
use Rattle.client_core.specs.Clients.{ClientSelf, AskedRead, SlotValue, ClientValue, ClientDone, quiet}
use Rattle.client_core.specs.Slots.{asked, put_read, is_chosen, slot_of_id, slot_of_time, with_slot}

-- ---- frames of a held transaction

-- a slot whose transaction is formed
pub record HeldValue : Type 0 where
  pub place : ℕ
  pub slot : SlotValue
  pub pursuit : PursuitValue

abbrev pub held_at_slot : ℕ → SlotValue → Option HeldValue
held_at_slot place s = option_map (λ p. record { place = place; slot = s; pursuit = p }) s.pursuit

abbrev pub held_at : ClientValue → ℕ → Option HeldValue
held_at client place = option_and_then (held_at_slot place) (slice_get client.slots place)

abbrev pub held_with : ClientValue → List ℕ → Option HeldValue
held_with client named = option_and_then (held_at client) (slot_of_id client named)

-- a fault of what is held, or the frame is taken
abbrev pub taken_by :
    ClientSelf → ClientValue → (TransactionValue → Option FrameFault) → TakenValue → Option HeldValue
    → Result ClientDone FrameFault
taken_by me client fault x None = Err NotMine
taken_by me client fault x (Some h) =
    unless (fault h.pursuit.transaction) (pursuit_done client h.place h.slot (take_frame me.cluster h.pursuit x))

abbrev pub on_vote : ClientSelf → ClientValue → VotedValue → Result ClientDone FrameFault
on_vote me client v =
    taken_by me client (λ t. vote_fault me.accepts me.cluster t v) (TakenVote v) (held_with client v.id)

abbrev pub on_log_reply : ClientSelf → ClientValue → LogReplyValue → Result ClientDone FrameFault
on_log_reply me client r =
    taken_by me client (λ t. log_fault me.accepts me.cluster t r) (TakenLog r) (held_with client r.id)

abbrev pub on_writeback : ClientSelf → ClientValue → WritebackValue → Result ClientDone FrameFault
on_writeback me client m =
    taken_by me client (λ t. writeback_fault me.accepts me.cluster t m) (TakenCertificate m.certificate)
    (held_with client (id m.transaction))

-- ---- read replies

-- the read that was asked, of a key at the slot's time
abbrev pub read_asked : ClientSelf → SlotValue → AskedRead → ReadValue
read_asked me s r = record { key = r.key; time = s.time; client = me.number }

-- the first reply of each replica counts
abbrev pub with_reply : ReadReplyValue → AskedRead → AskedRead
with_reply m r =
    if list_any (λ (x : ReadReplyValue). x.replica == m.replica) r.replies then r
    else record r { replies = r.replies ++ m ∷ [] }

abbrev pub reply_taken : ClientValue → ℕ → SlotValue → ReadReplyValue → AskedRead → ClientDone
reply_taken client place s m r = quiet (with_slot client place (record s { reads = put_read (with_reply m r) s.reads }))

-- once the choice is made no reply is waited for
abbrev pub reply_by :
    ClientSelf → ClientValue → ℕ → SlotValue → ReadReplyValue → Option AskedRead → Result ClientDone FrameFault
reply_by me client place s m None = Err NotMine
reply_by me client place s m (Some r) =
    if is_chosen me.cluster r then Err NotMine
    else unless (reply_fault me.accepts me.cluster (read_asked me s r) m) (reply_taken client place s m r)

abbrev pub reply_at : ClientSelf → ClientValue → ReadReplyValue → ℕ → Option SlotValue → Result ClientDone FrameFault
reply_at me client m place None = Err NotMine
reply_at me client m place (Some s) = reply_by me client place s m (asked m.key s)

abbrev pub reply_to_time : ClientSelf → ClientValue → ReadReplyValue → Option ℕ → Result ClientDone FrameFault
reply_to_time me client m None = Err NotMine
reply_to_time me client m (Some place) = reply_at me client m place (slice_get client.slots place)

abbrev pub on_read_reply : ClientSelf → ClientValue → ReadReplyValue → Result ClientDone FrameFault
on_read_reply me client m =
    if m.client == me.number then reply_to_time me client m (slot_of_time client m.time) else Err NotMine
