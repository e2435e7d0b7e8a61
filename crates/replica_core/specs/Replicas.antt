-- A replica: what doesn't change of it, its book, and what it does at one frame.
use Rattle.std.specs.Prelude.{ℕ, List, [], Option}
use Rattle.basil_types.specs.Words.{SignedWords}
use Rattle.certificates.specs.Accepted.{Accepted}
use Rattle.decision_log.specs.declared.cell.LogCell.{LogCell}
use Rattle.fallback_leader.specs.declared.words.KeptWord.{KeptWord}
use Rattle.keyring.specs.Signing.{Signing}
use Rattle.mv_store.specs.Held.{NotedRead}
use Rattle.node_steps.specs.Envelopes.{EnvelopeValue}
use Rattle.node_steps.specs.Pens.{PenValue}
use Rattle.txn_table.specs.declared.released.Home.{Home}
use Rattle.txn_table.specs.Entries.{EntryValue}

-- the cluster and the own shard, the own index in it, what the keyring accepts, and how the pen signs
pub record ReplicaSelf : Type 0 where
  pub home : Home
  pub index : ℕ
  pub accepts : Accepted
  pub signing : Signing

-- what is logged of one transaction: the cell, the signature of the log reply that says it, until the cell changes, and
-- the clients that wait for a change, ascending
pub record LoggedEntry : Type 0 where
  pub id : List ℕ
  pub cell : LogCell
  pub reply : Option (List ℕ)
  pub askers : List ℕ

-- the known transactions in order of arrival, the noted reads, what is logged, the election words that were collected,
-- and the place of the pen
pub record BookValue : Type 0 where
  pub entries : List EntryValue
  pub noted : List NotedRead
  pub logged : List LoggedEntry
  pub kept : List KeptWord
  pub pen : PenValue

-- before the first frame
abbrev pub empty_book : PenValue → BookValue
empty_book pen = record { entries = []; noted = []; logged = []; kept = []; pen = pen }

-- what an accepted frame leaves: the book, the words that were signed and the messages that are sent, in order
pub record Done : Type 0 where
  pub book : BookValue
  pub signed : List SignedWords
  pub sent : List EnvelopeValue

-- nothing but the book changes
abbrev pub quiet : BookValue → Done
quiet book = record { book = book; signed = []; sent = [] }
