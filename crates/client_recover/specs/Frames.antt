-- What a client takes of a frame, for a transaction that it pursues, or the frame's first fault.
use Rattle.std.specs.Prelude.{ℕ, List, Option, Some, None, Result, Err, if◌then◌else◌}
use Rattle.std.specs.Str.{bytes_eq}
use Rattle.basil_types.specs.Setting.{Setting}
use Rattle.basil_types.specs.Transaction.{TransactionValue, id}
use Rattle.certificates.specs.Accepted.{Accepted}
use Rattle.certificates.specs.declared.fault.FrameFault.{FrameFault}
use Rattle.certificates.specs.declared.fault.FrameFault.TheVariants.{NotMine}
use Rattle.frame_views.specs.Values.{VotedValue, LogReplyValue, WritebackValue, MessageValue}
use Rattle.frame_views.specs.Values.{Read, ReadReply, St1, Vote, St2, LogReply, Writeback, Recover, Invoke, Elect}
use Rattle.frame_views.specs.Values.{Decide}
use Rattle.node_steps.specs.Refusing.{unless}
use Rattle.client_recover.specs.Taken.{TakenValue, TakenVote, TakenLog, TakenCertificate}
use Rattle.client_recover.specs.Faults.{vote_fault, log_fault, writeback_fault}

-- ---- what a message says, by kinds

abbrev pub vote_of : MessageValue → Option VotedValue
vote_of (Read m) = None
vote_of (ReadReply m) = None
vote_of (St1 m) = None
vote_of (Vote m) = Some m
vote_of (St2 m) = None
vote_of (LogReply m) = None
vote_of (Writeback m) = None
vote_of (Recover m) = None
vote_of (Invoke m) = None
vote_of (Elect m) = None
vote_of (Decide m) = None

abbrev pub log_reply_of : MessageValue → Option LogReplyValue
log_reply_of (Read m) = None
log_reply_of (ReadReply m) = None
log_reply_of (St1 m) = None
log_reply_of (Vote m) = None
log_reply_of (St2 m) = None
log_reply_of (LogReply m) = Some m
log_reply_of (Writeback m) = None
log_reply_of (Recover m) = None
log_reply_of (Invoke m) = None
log_reply_of (Elect m) = None
log_reply_of (Decide m) = None

abbrev pub writeback_of : MessageValue → Option WritebackValue
writeback_of (Read m) = None
writeback_of (ReadReply m) = None
writeback_of (St1 m) = None
writeback_of (Vote m) = None
writeback_of (St2 m) = None
writeback_of (LogReply m) = None
writeback_of (Writeback m) = Some m
writeback_of (Recover m) = None
writeback_of (Invoke m) = None
writeback_of (Elect m) = None
writeback_of (Decide m) = None

-- ---- what is taken: the frame is of the kind that is asked for, names the transaction and has no fault

-- this is taken of a frame that names the transaction with this id, unless it has a fault
abbrev pub if_mine : List ℕ → TransactionValue → Option FrameFault → TakenValue → Result TakenValue FrameFault
if_mine named t fault x = if bytes_eq named (id t) then unless fault x else Err NotMine

abbrev pub vote_taken : Accepted → Setting → TransactionValue → Option VotedValue → Result TakenValue FrameFault
vote_taken A c t None = Err NotMine
vote_taken A c t (Some v) = if_mine v.id t (vote_fault A c t v) (TakenVote v)

abbrev pub log_taken : Accepted → Setting → TransactionValue → Option LogReplyValue → Result TakenValue FrameFault
log_taken A c t None = Err NotMine
log_taken A c t (Some r) = if_mine r.id t (log_fault A c t r) (TakenLog r)

abbrev pub certificate_taken :
    Accepted → Setting → TransactionValue → Option WritebackValue → Result TakenValue FrameFault
certificate_taken A c t None = Err NotMine
certificate_taken A c t (Some m) =
    if_mine (id m.transaction) t (writeback_fault A c t m) (TakenCertificate m.certificate)
