-- What a step of a replica that writes down leaves.
use Rattle.std.specs.Prelude.{◌≡◌, ◌<◌, ℕ, ◌++◌, List, [], ◌∷◌, map, Result, Ok, Err, IsOk, ⊤}
use Rattle.basil_types.specs.declared.outbox.Outbox.{Outbox}
use Rattle.basil_types.specs.declared.party.Party.{Party}
use Rattle.basil_types.specs.Words.{words_of}
use Rattle.node_steps.specs.Framed.{framed}
use Rattle.node_steps.specs.Pens.{PenValue}
use Rattle.replica_core.specs.declared.refusal.Refusal.{Refusal}
use Rattle.replica_core.specs.Answers.{answer}
use Rattle.replica_core.specs.Replicas.{ReplicaSelf, Done, empty_book}
use Rattle.replica_laws.specs.Steps.{Handed, book_after, signed_in}
use Rattle.node_journal.specs.declared.fault.StepFault.{StepFault}
use Rattle.node_journal.specs.declared.fault.StepFault.TheVariants.{Closed, Refused, Full, DiskFault, NoMemory}
use Rattle.node_journal.specs.declared.limits.TheConstants.{JOURNAL_BYTES}
use Rattle.node_journal.specs.Journals.{IsTooLong}

abbrev pub handed : ℕ → Party → List ℕ → Handed
handed now from frame = record { now = now; from = from; frame = frame }

-- what a replica answers to a frame after those
abbrev pub answer_after : ReplicaSelf → PenValue → List Handed → Handed → Result Done Refusal
answer_after me begun hs h = answer me h.now h.from (book_after me (empty_book begun) hs) h.frame

-- all words that it signed at those
abbrev pub words_signed : ReplicaSelf → PenValue → List Handed → List (List ℕ)
words_signed me begun hs = map words_of (signed_in me (empty_book begun) hs)

-- an outbox gained the messages that are sent and the words that were signed, each in order
pub record Gains (old new : Outbox) (done : Done) : Type 0 where
  pub messages : new.messages.items ≡ old.messages.items ++ map framed done.sent
  pub signed : new.signed.items ≡ old.signed.items ++ map words_of done.signed

-- and these are all words that it signed at those frames and this one, behind those that it signed at those
pub record GainsWords (me : ReplicaSelf) (begun : PenValue) (hs : List Handed) (h : Handed) (old new : Outbox) :
    Type 0 where
  pub added : List (List ℕ)
  pub gained : new.signed.items ≡ old.signed.items ++ added
  pub signed : words_signed me begun (hs ++ h ∷ []) ≡ words_signed me begun hs ++ added

-- why the frame isn't taken
abbrev pub IsFaulted : (hs : List Handed) → Handed → StepFault → Result Done Refusal → Type 0
IsFaulted hs h Closed answered = ⊥
IsFaulted hs h (Refused refusal) answered = answered ≡ Err refusal
IsFaulted hs h Full answered = IsOk answered × IsTooLong (hs ++ h ∷ [])
IsFaulted hs h DiskFault answered = IsOk answered × ¬ IsTooLong (hs ++ h ∷ [])
IsFaulted hs h NoMemory answered = ⊤

-- the outbox gains what the answer says, or the first fault comes
abbrev pub IsTaken : (hs : List Handed) → Handed → (old new : Outbox) → Result (Unit {0}) StepFault →
    Result Done Refusal → Type 0
IsTaken hs h old new (Ok _) (Ok done) = Gains old new done × ¬ IsTooLong (hs ++ h ∷ [])
IsTaken hs h old new (Ok _) (Err refusal) = ⊥
IsTaken hs h old new (Err fault) answered = IsFaulted hs h fault answered

-- a journal of so many bytes isn't too long where its record was written, or was about to be
abbrev pub IsWithin : ℕ → Result (Unit {0}) StepFault → Type 0
IsWithin count (Ok _) = ¬ (JOURNAL_BYTES < count)
IsWithin count (Err Closed) = ⊥
IsWithin count (Err (Refused refusal)) = ⊥
IsWithin count (Err Full) = JOURNAL_BYTES < count
IsWithin count (Err DiskFault) = ¬ (JOURNAL_BYTES < count)
IsWithin count (Err NoMemory) = ⊤

-- something was written, or might have been
abbrev pub MayHaveWritten : Result (Unit {0}) StepFault → Type 0
MayHaveWritten (Ok _) = ⊤
MayHaveWritten (Err Closed) = ⊥
MayHaveWritten (Err (Refused refusal)) = ⊥
MayHaveWritten (Err Full) = ⊥
MayHaveWritten (Err DiskFault) = ⊤
MayHaveWritten (Err NoMemory) = ⊥
