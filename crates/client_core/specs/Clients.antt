-- A client: what doesn't change of it, what it holds, and what it does at one call or frame.
use Rattle.std.specs.Prelude.{ℕ, List, [], Bool, Option}
use Rattle.basil_types.specs.declared.transaction.parts.WritePart.{WritePart}
use Rattle.basil_types.specs.Setting.{Setting}
use Rattle.basil_types.specs.Words.{SignedWords}
use Rattle.certificates.specs.Accepted.{Accepted}
use Rattle.frame_views.specs.Values.{ReadReplyValue}
use Rattle.keyring.specs.Signing.{Signing}
use Rattle.node_steps.specs.Envelopes.{EnvelopeValue}
use Rattle.node_steps.specs.Pens.{PenValue}
use Rattle.client_recover.specs.Taken.{PursuitValue}

-- the cluster, the own number, what the keyring accepts, and how the pen signs
pub record ClientSelf : Type 0 where
  pub cluster : Setting
  pub number : ℕ
  pub accepts : Accepted
  pub signing : Signing

-- a key that was asked for, and the first valid reply of each replica, until there are enough
pub record AskedRead : Type 0 where
  pub key : List ℕ
  pub replies : List ReadReplyValue

-- a held transaction, begun or recovered; its reads and writes ascend by key
pub record SlotValue : Type 0 where
  pub begun : Bool
  pub time : ℕ
  pub reads : List AskedRead
  pub writes : List WritePart
  pub pursuit : Option PursuitValue

-- the last time that was begun, the held transactions by slot, and the place of the pen
pub record ClientValue : Type 0 where
  pub last : ℕ
  pub slots : List SlotValue
  pub pen : PenValue

-- before the first call
abbrev pub empty_client : PenValue → ClientValue
empty_client pen = record { last = 0; slots = []; pen = pen }

-- what an accepted call or frame leaves: the client, the words that were signed and the messages that are sent
pub record ClientDone : Type 0 where
  pub client : ClientValue
  pub signed : List SignedWords
  pub sent : List EnvelopeValue

-- nothing but the client changes
abbrev pub quiet : ClientValue → ClientDone
quiet client = record { client = client; signed = []; sent = [] }
