-- The signatures and the transactions of a message, in the order of the bytes.
use Rattle.std.specs.Prelude.{ℕ, List, [], ◌∷◌, ◌++◌, Option, Some, None, map}
use Rattle.basil_types.specs.declared.party.Decision.TheVariants.{Abort}
use Rattle.basil_types.specs.Transaction.{TransactionValue, id}
use Rattle.frame_views.specs.Signed.{SignedBy, client_signed, vote_signed, log_signed}
use Rattle.frame_views.specs.Signed.{tally_signed, tallies_signed, commit_signed}
use Rattle.frame_views.specs.Signed.{reply_signed, word_signed, proposal_signed}
use Rattle.frame_views.specs.Values.{MessageValue, Read, ReadReply, St1, Vote, St2}
use Rattle.frame_views.specs.Values.{LogReply, Writeback, Recover, Invoke, Elect, Decide}
use Rattle.frame_views.specs.Values.{BodyValue, Commits, FastAbort, ConflictAbort, CommittedValue}

-- what the watch looks at
pub data MarkValue : Type 0 where
  Signature : (signed : SignedBy) → MarkValue
  Text : (transaction : TransactionValue) → MarkValue

abbrev pub as_marks : List SignedBy → List MarkValue
as_marks signed = map Signature signed

abbrev pub body_marks : List ℕ → BodyValue → List MarkValue
body_marks x (Commits body) = as_marks (commit_signed x body)
body_marks x (FastAbort tally) = as_marks (tally_signed x Abort tally)
body_marks x (ConflictAbort c) =
    Signature (vote_signed c.shard x Abort (record { replica = c.replica; signature = c.signature }))
    ∷ Text c.other ∷ as_marks (commit_signed c.proof.id c.proof.body)

abbrev pub part_marks : CommittedValue → List MarkValue
part_marks p = Text p.transaction ∷ body_marks p.certificate.id p.certificate.body

abbrev pub maybe_part : Option CommittedValue → List MarkValue
maybe_part None = []
maybe_part (Some p) = part_marks p

abbrev pub maybe_text : Option TransactionValue → List MarkValue
maybe_text None = []
maybe_text (Some t) = Text t ∷ []

abbrev pub marks : MessageValue → List MarkValue
marks (Read m) = []
marks (ReadReply m) = maybe_part m.committed ++ (maybe_text m.prepared ++ Signature (reply_signed m) ∷ [])
marks (St1 m) = Text m.transaction ∷ Signature (client_signed m.transaction m.signature) ∷ []
marks (Vote m) =
    maybe_part m.proof
    ++ Signature (vote_signed m.shard m.id m.decision (record { replica = m.replica; signature = m.signature })) ∷ []
marks (St2 m) =
    Text m.transaction ∷ Signature (client_signed m.transaction m.signature)
    ∷ as_marks (tallies_signed (id m.transaction) m.decision m.tallies)
marks (LogReply m) =
    Signature (log_signed m.shard m.id (record {
      replica = m.replica;
      decision = m.decision;
      decided = m.decided;
      current = m.current;
      signature = m.signature;
    })) ∷ []
marks (Writeback m) = part_marks (record { transaction = m.transaction; certificate = m.certificate })
marks (Recover m) = Text m.transaction ∷ Signature (client_signed m.transaction m.signature) ∷ []
marks (Invoke m) = as_marks (map (log_signed m.shard m.id) m.replies)
marks (Elect m) =
    Text m.transaction
    ∷ Signature (word_signed m.shard (id m.transaction) m.view (record {
      replica = m.replica;
      decision = m.decision;
      signature = m.signature;
    })) ∷ []
marks (Decide m) =
    Text m.transaction ∷ as_marks (map (word_signed m.shard (id m.transaction) m.view) m.words)
    ++ Signature (proposal_signed m.shard (id m.transaction) m.view (record {
      replica = m.replica;
      decision = m.decision;
      signature = m.signature;
    })) ∷ []
