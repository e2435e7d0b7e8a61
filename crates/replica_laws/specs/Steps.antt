-- Lists of steps of one replica.
use Rattle.std.specs.Prelude.{◌≡◌, ◌+◌, ◌≤◌, ◌++◌, ◌⊎◌, ℕ, Bool, false, List, [], ◌∷◌, Option, Some, Result, Ok, Err}
use Rattle.std.specs.Prelude.{filter, length, slice_get}
use Rattle.std.specs.Str.{bytes_eq}
use Rattle.basil_types.specs.declared.party.Decision.{Decision}
use Rattle.basil_types.specs.declared.party.Party.{Party}
use Rattle.basil_types.specs.Words.{SignedWords, LogReplyOf, TransactionWords, VoteWords, ReadReplyWords, LogReplyWords}
use Rattle.basil_types.specs.Words.{ElectionWords, ProposalWords}
use Rattle.node_steps.specs.Pens.{PenValue}
use Rattle.replica_core.specs.Answers.{answer}
use Rattle.replica_core.specs.declared.refusal.Refusal.{Refusal}
use Rattle.replica_core.specs.Replicas.{ReplicaSelf, BookValue, Done, empty_book, quiet}
use Rattle.txn_table.specs.Entries.{EntryValue, OutcomeValue, Voted}

-- a frame that a replica is handed, by whom, at which moment
pub record Handed : Type 0 where
  pub now : ℕ
  pub from : Party
  pub frame : List ℕ

-- an accepted frame leaves what its answer says, a refused one leaves all as it was
abbrev pub left_by : BookValue → Result Done Refusal → Done
left_by book (Ok done) = done
left_by book (Err refusal) = quiet book

abbrev pub step : ReplicaSelf → BookValue → Handed → Done
step me book h = left_by book (answer me h.now h.from book h.frame)

-- the book after all of them
abbrev pub book_after : ReplicaSelf → BookValue → List Handed → BookValue
book_after me book [] = book
book_after me book (h ∷ hs) = book_after me (step me book h).book hs

-- all words that are signed, in order
abbrev pub signed_in : ReplicaSelf → BookValue → List Handed → List SignedWords
signed_in me book [] = []
signed_in me book (h ∷ hs) = (step me book h).signed ++ signed_in me (step me book h).book hs

-- ---- places of the pen

-- this many words were signed between these books
pub record Spends (old new : BookValue) (count : ℕ) : Type 0 where
  pub spent : new.pen.spent ≡ old.pen.spent + count
  pub left : new.pen.left + count ≡ old.pen.left

abbrev pub PlacesNeverRepeat : Type 0
PlacesNeverRepeat =
    (me : ReplicaSelf) (book : BookValue) (hs : List Handed) →
    Spends book (book_after me book hs) (length (signed_in me book hs))

-- from the empty book on at most as many words are signed as frames are handed, though an outcome may sign many votes
abbrev pub SignsNoMoreThanHanded : Type 0
SignsNoMoreThanHanded =
    (me : ReplicaSelf) (pen : PenValue) (hs : List Handed) →
    length (signed_in me (empty_book pen) hs) ≤ length hs

-- ---- what is known

-- what is known of a transaction stays: its text, its vote once it is given, its outcome once there is one
pub record Keeps (old new : EntryValue) : Type 0 where
  pub text : new.transaction ≡ old.transaction
  pub vote :
      (d : Decision) (signature : List ℕ) (proof : Option ℕ) →
      old.vote ≡ Voted d signature proof → new.vote ≡ Voted d signature proof
  pub outcome : (o : OutcomeValue) → old.outcome ≡ Some o → new.outcome ≡ Some o

-- each known transaction stays at its place
abbrev pub Grows : (old new : List EntryValue) → Type 0
Grows old new =
    (place : ℕ) (e : EntryValue) → slice_get old place ≡ Some e →
    (f : EntryValue) × (slice_get new place ≡ Some f) × Keeps e f

abbrev pub NothingIsForgotten : Type 0
NothingIsForgotten =
    (me : ReplicaSelf) (book : BookValue) (hs : List Handed) → Grows book.entries (book_after me book hs).entries

-- ---- votes

abbrev pub is_vote_on : List ℕ → SignedWords → Bool
is_vote_on x (TransactionWords named) = false
is_vote_on x (VoteWords v) = bytes_eq v.id x
is_vote_on x (ReadReplyWords r) = false
is_vote_on x (LogReplyWords r) = false
is_vote_on x (ElectionWords w) = false
is_vote_on x (ProposalWords p) = false

-- how many of these words are votes on a transaction
abbrev pub votes_on : List ℕ → List SignedWords → ℕ
votes_on x words = length (filter (is_vote_on x) words)

-- from the empty book on at most one vote on each transaction is signed
abbrev pub OneVoteEach : Type 0
OneVoteEach =
    (me : ReplicaSelf) (pen : PenValue) (hs : List Handed) (x : List ℕ) →
    votes_on x (signed_in me (empty_book pen) hs) ≤ 1

-- ---- decisions

-- a log reply is among these words
abbrev pub SaysLog : List SignedWords → LogReplyOf → Type 0
SaysLog [] a = ⊥
SaysLog (w ∷ ws) a = (w ≡ LogReplyWords a) ⊎ SaysLog ws a

-- from the empty book on log replies of one transaction that tell one decided view tell one decision
abbrev pub OneDecisionPerView : Type 0
OneDecisionPerView =
    (me : ReplicaSelf) (pen : PenValue) (hs : List Handed) (a b : LogReplyOf) →
    SaysLog (signed_in me (empty_book pen) hs) a → SaysLog (signed_in me (empty_book pen) hs) b →
    a.id ≡ b.id → a.decided ≡ b.decided → a.decision ≡ b.decision
