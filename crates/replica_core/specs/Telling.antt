-- What an answer leaves, in bytes, and what a plan of it is.
use Rattle.std.specs.Prelude.{◌≡◌, ◌≢◌, ℕ, List, [], ◌∷◌, ◌++◌, map, Result, Ok, Err}
use Rattle.basil_types.specs.declared.outbox.Envelope.{Envelope}
use Rattle.basil_types.specs.declared.outbox.Outbox.{Outbox}
use Rattle.basil_types.specs.Words.{words_of}
use Rattle.keyring.specs.Signing.{Signing}
use Rattle.node_steps.specs.declared.pending.Pending.{Pending}
use Rattle.node_steps.specs.Framed.{framed}
use Rattle.node_steps.specs.Pendings.{sealed_all}
use Rattle.node_steps.specs.Pens.{after_one}
use Rattle.txn_table.specs.Entries.{EntryValue}
use Rattle.replica_core.specs.declared.refusal.Refusal.{Refusal}
use Rattle.replica_core.specs.declared.refusal.Refusal.TheVariants.{NoMemory}
use Rattle.replica_core.specs.Replicas.{BookValue, Done}

-- the book, the words that were signed and the frames that are sent
pub record Told : Type 0 where
  pub book : BookValue
  pub signed : List (List ℕ)
  pub sent : List Envelope

abbrev pub told : Done → Told
told d = record { book = d.book; signed = map words_of d.signed; sent = map framed d.sent }

abbrev pub told_of : Result Done Refusal → Result Told Refusal
told_of (Ok d) = Ok (told d)
told_of (Err r) = Err r

-- before anything is signed or sent
abbrev pub begun : BookValue → Told
begun book = record { book = book; signed = []; sent = [] }

-- a book, beside what an outbox holds
abbrev pub told_with : BookValue → Outbox → Told
told_with book out = record { book = book; signed = out.signed.items; sent = out.messages.items }

-- behind what an outbox held before
abbrev pub behind : Outbox → Told → Told
behind out t =
    record { book = t.book; signed = out.signed.items ++ t.signed; sent = out.messages.items ++ t.sent }

-- ---- steps

abbrev pub with_entries : Told → List EntryValue → Told
with_entries t entries = record t { book = record (t.book) { entries = entries } }

abbrev pub with_sent : Told → Envelope → Told
with_sent t e = record t { sent = t.sent ++ e ∷ [] }

-- the signature of what waits
abbrev pub given : Signing → Told → Pending → List ℕ
given signing t p = signing.gives t.book.pen.spent p.words

-- the words are signed and the frames sent
abbrev pub with_signed : Signing → Told → Pending → Told
with_signed signing t p =
    record {
      book = record (t.book) { pen = after_one t.book.pen };
      signed = t.signed ++ p.words ∷ [];
      sent = t.sent ++ sealed_all (given signing t p) p;
    }

-- ---- plans

-- the planned work does what the answer says, and a refusal is the answer's, unless memory is wanting
abbrev pub IsPlanned : {W : Type 0} → (Told → W → Told) → BookValue → Result W Refusal → Result Done Refusal → Type 0
IsPlanned performed book (Ok work) answer = told_of answer ≡ Ok (performed (begun book) work)
IsPlanned performed book (Err e) answer = e ≢ NoMemory → answer ≡ Err e
