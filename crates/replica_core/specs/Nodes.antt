-- The books that a replica shows, and what a step leaves.
use Rattle.std.specs.Prelude.{◌≡◌, ◌≢◌, ◌++◌, ℕ, List, [], map, Result, Ok, Err}
use Rattle.basil_types.specs.declared.outbox.Outbox.{Outbox}
use Rattle.basil_types.specs.Words.{words_of}
use Rattle.fallback_leader.specs.declared.words.KeptWord.{KeptWord}
use Rattle.keyring.specs.Signing.{Signing}
use Rattle.mvtso_check.specs.Standing.{StandsFor}
use Rattle.node_steps.specs.Framed.{framed}
use Rattle.node_steps.specs.Pens.{PenValue}
use Rattle.replica_core.specs.declared.parts.Parts.{Parts}
use Rattle.replica_core.specs.declared.plan.Plan.{Plan}
use Rattle.replica_core.specs.declared.refusal.Refusal.{Refusal}
use Rattle.replica_core.specs.declared.refusal.Refusal.TheVariants.{NoMemory}
use Rattle.replica_core.specs.Holding.{KeepsNoted}
use Rattle.replica_core.specs.KnownWorks.{HasRoomFor}
use Rattle.replica_core.specs.Replicas.{BookValue, Done}
use Rattle.replica_core.specs.Telling.{Told}
use Rattle.replica_core.specs.Works.{CanPerform, perform_work, message_count, word_count, byte_count}

-- ---- what is shown

-- a book with what these parts and the pen show, and with its own noted reads
abbrev pub book_shown : BookValue → Parts → PenValue → BookValue
book_shown book parts pen =
    record book {
      entries = parts.known.table.entries;
      logged = parts.logged.entries;
      kept = parts.leading.kept;
      pen = pen;
    }

-- the parts and the pen show this book: all but the noted reads is what they hold, and the store stands for those
pub record Shows (parts : Parts) (pen : PenValue) (book : BookValue) : Type 0 where
  pub same : book_shown book parts pen ≡ book
  pub noted : StandsFor parts.known.store parts.known.table.entries book.noted

-- some book is shown
abbrev pub IsShown : Parts → PenValue → Type 0
IsShown parts pen = (book : BookValue) × Shows parts pen book

-- what the old parts showed the new ones show
pub record ShowsSame (old new : Parts) : Type 0 where
  pub entries : new.known.table.entries ≡ old.known.table.entries
  pub noted : KeepsNoted old.known new.known
  pub logged : new.logged.entries ≡ old.logged.entries
  pub kept : new.leading.kept ≡ old.leading.kept

-- the parts, the pen and the outbox tell this
pub record Performs (parts : Parts) (pen : PenValue) (out : Outbox) (t : Told) : Type 0 where
  pub book : Shows parts pen t.book
  pub messages : out.messages.items ≡ t.sent
  pub signed : out.signed.items ≡ t.signed

-- ---- steps

-- what was done is shown, and the outbox gained what is sent and signed, in order
pub record Leaves (parts : Parts) (pen : PenValue) (old new : Outbox) (done : Done) : Type 0 where
  pub book : Shows parts pen done.book
  pub messages : new.messages.items ≡ old.messages.items ++ map framed done.sent
  pub signed : new.signed.items ≡ old.signed.items ++ map words_of done.signed

-- the step did what the answer says, or gave its refusal, unless memory was wanting
abbrev pub Steps : Parts → PenValue → (old new : Outbox) → Result (Unit {0}) Refusal → Result Done Refusal → Type 0
Steps parts pen old new (Ok _) (Ok done) = Leaves parts pen old new done
Steps parts pen old new (Ok _) (Err refusal) = ⊥
Steps parts pen old new (Err e) answer = e ≢ NoMemory → answer ≡ Err e

-- ---- plans

abbrev pub perform_plan : Signing → List KeptWord → Told → Plan → Told
perform_plan signing kept t plan = perform_work signing kept t plan.work

-- the plan can be committed by a replica with these parts, whose pen has signatures of this size and so many left
pub record CanCommit (size left : ℕ) (parts : Parts) (plan : Plan) : Type 0 where
  pub can : CanPerform size left parts plan.work
  pub room : HasRoomFor plan.out (message_count plan.work) (word_count plan.work)
  pub unsent : plan.out.messages.items ≡ []
  pub unsigned : plan.out.signed.items ≡ []
  pub messages : plan.messages ≡ message_count plan.work
  pub bytes : plan.bytes ≡ byte_count size plan.work
