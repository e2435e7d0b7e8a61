-- Frames that lack their signature, which is the last field of each frame that a node signs as it sends it.
use Rattle.std.specs.Prelude.{◌≡◌, ℕ, List, ◌∷◌, ◌++◌}
use Rattle.basil_types.specs.Transaction.{canonical, short_text, long_text}
use Rattle.basil_types.specs.Words.{decision_byte}
use Rattle.frame_views.specs.declared.kind.Kind.TheVariants as kind
use Rattle.frame_views.specs.Spelling.{spelling, kind_byte, u64_bytes, counted, optional, committed_bytes}
use Rattle.frame_views.specs.Spelling.{tallies_bytes, word_bytes}
use Rattle.frame_views.specs.Values.{ReadReplyValue, SignedValue, VotedValue, St2Value, LogReplyValue, ElectValue}
use Rattle.frame_views.specs.Values.{DecideValue, MessageValue}

abbrev pub unsigned_read_reply : ReadReplyValue → List ℕ
unsigned_read_reply m =
    kind_byte kind.ReadReply ∷ m.shard ∷ m.replica ∷ (short_text m.key ++ (u64_bytes m.time ++ m.client ∷
    (optional committed_bytes m.committed ++ optional canonical m.prepared)))

abbrev pub unsigned_st1 : SignedValue → List ℕ
unsigned_st1 m = kind_byte kind.St1 ∷ canonical m.transaction

abbrev pub unsigned_vote : VotedValue → List ℕ
unsigned_vote m =
    kind_byte kind.Vote ∷ m.shard ∷ m.replica ∷ (m.id ++ decision_byte m.decision ∷ optional committed_bytes m.proof)

abbrev pub unsigned_log_reply : LogReplyValue → List ℕ
unsigned_log_reply m =
    kind_byte kind.LogReply ∷ m.shard ∷ m.replica ∷ (m.id ++ decision_byte m.decision ∷
    (u64_bytes m.decided ++ u64_bytes m.current))

abbrev pub unsigned_recover : SignedValue → List ℕ
unsigned_recover m = kind_byte kind.Recover ∷ canonical m.transaction

-- what an elect says behind its transaction
abbrev pub word_front : ElectValue → List ℕ
word_front m = m.shard ∷ m.replica ∷ decision_byte m.decision ∷ u64_bytes m.view

abbrev pub unsigned_elect : ElectValue → List ℕ
unsigned_elect m = kind_byte kind.Elect ∷ (canonical m.transaction ++ word_front m)

-- what a decide says behind its transaction
abbrev pub proposal_front : DecideValue → List ℕ
proposal_front m =
    m.shard ∷ m.replica ∷ decision_byte m.decision ∷ (u64_bytes m.view ++ counted word_bytes m.words)

abbrev pub unsigned_decide : DecideValue → List ℕ
unsigned_decide m = kind_byte kind.Decide ∷ (canonical m.transaction ++ proposal_front m)

-- what a second stage says behind its transaction
abbrev pub second_bytes : St2Value → List ℕ
second_bytes m = long_text m.signature ++ decision_byte m.decision ∷ tallies_bytes m.tallies

-- a frame is what lacks the signature, and behind it the signature's field
abbrev pub EndsSigned : MessageValue → List ℕ → List ℕ → Type 0
EndsSigned m front signature = spelling m ≡ front ++ long_text signature
