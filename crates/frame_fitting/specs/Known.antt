-- What the types of owned messages tell of their values: keys are of bytes, and transactions are such.
use Rattle.std.specs.Prelude.{Option, Some, None, ⊤}
use Rattle.basil_types.specs.Texts.{IsBytes}
use Rattle.basil_types.specs.Transaction.{TransactionValue, IsTransaction}
use Rattle.frame_views.specs.Values.{BodyValue, Commits, FastAbort, ConflictAbort, CommittedValue, ReadReplyValue}
use Rattle.frame_views.specs.Values.{MessageValue, Read, ReadReply, St1, Vote, St2, LogReply, Writeback, Recover}
use Rattle.frame_views.specs.Values.{Invoke, Elect, Decide}

abbrev pub KnownBody : BodyValue → Type 0
KnownBody (Commits body) = ⊤
KnownBody (FastAbort tally) = ⊤
KnownBody (ConflictAbort c) = IsTransaction c.other

abbrev pub KnownCommitted : Option CommittedValue → Type 0
KnownCommitted None = ⊤
KnownCommitted (Some c) = IsTransaction c.transaction × KnownBody c.certificate.body

abbrev pub KnownPrepared : Option TransactionValue → Type 0
KnownPrepared None = ⊤
KnownPrepared (Some t) = IsTransaction t

pub record KnownReply (m : ReadReplyValue) : Type 0 where
  pub key : IsBytes m.key
  pub committed : KnownCommitted m.committed
  pub prepared : KnownPrepared m.prepared

abbrev pub Known : MessageValue → Type 0
Known (Read m) = IsBytes m.key
Known (ReadReply m) = KnownReply m
Known (St1 m) = IsTransaction m.transaction
Known (Vote m) = KnownCommitted m.proof
Known (St2 m) = IsTransaction m.transaction
Known (LogReply m) = ⊤
Known (Writeback m) = IsTransaction m.transaction × KnownBody m.certificate.body
Known (Recover m) = IsTransaction m.transaction
Known (Invoke m) = ⊤
Known (Elect m) = IsTransaction m.transaction
Known (Decide m) = IsTransaction m.transaction
