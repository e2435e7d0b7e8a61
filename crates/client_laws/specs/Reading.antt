-- What the reads of a transaction that a client signs are taken from.
use Rattle.std.specs.Prelude.{◌≡◌, ◌≤◌, ℕ, List, Some, Ok, map, length, Contains}
use Rattle.std.specs.List.{IsDistinct}
use Rattle.std.specs.Prelude.{nat_eq}
use Rattle.basil_types.specs.declared.transaction.parts.ReadPart.{ReadPart}
use Rattle.basil_types.specs.Setting.{IsSetting}
use Rattle.basil_types.specs.Texts.{IsBytes}
use Rattle.basil_types.specs.Transaction.{id}
use Rattle.basil_types.specs.Words.{TransactionWords}
use Rattle.client_reads.specs.Choosing.{IsCarried}
use Rattle.client_reads.specs.Replies.{IsValidReply}
use Rattle.client_reads.specs.Versions.{carried_versions}
use Rattle.frame_views.specs.Fitting.{bounds_of}
use Rattle.frame_views.specs.Frames.{frame_in}
use Rattle.frame_views.specs.Values.{ReadReplyValue, ReadReply}
use Rattle.node_steps.specs.Pens.{PenValue}
use Rattle.client_recover.specs.Taken.{PursuitValue}
use Rattle.client_core.specs.Clients.{ClientSelf, ClientValue, empty_client}
use Rattle.client_laws.specs.Deciding.{pursuit_in}
use Rattle.client_laws.specs.Steps.{Step, Frame, client_after, signed_in}

-- a frame with this read reply was handed to the client
abbrev pub IsHanded : ClientSelf → List Step → ReadReplyValue → Type 0
IsHanded me steps reply =
    (frame : List ℕ) × Contains steps (Frame frame) × (frame_in (bounds_of me.cluster) frame ≡ Ok (ReadReply reply))

-- a read of a transaction of this time is the choice among valid replies of different replicas, as many as the cluster
-- reads, that the client was handed: genesis, what one of them carries with an accepted commit certificate, or a
-- dependency that f + 1 of them carry as prepared
pub record IsShown (me : ClientSelf) (steps : List Step) (time : ℕ) (read : ReadPart) : Type 0 where
  pub replies : List ReadReplyValue
  pub enough : me.cluster.reads ≤ length replies
  pub apart : IsDistinct nat_eq (map (λ (r : ReadReplyValue). r.replica) replies)
  pub handed : (r : ReadReplyValue) → Contains replies r → IsHanded me steps r
  pub valid : (r : ReadReplyValue) → Contains replies r →
      IsValidReply me.accepts me.cluster (record { key = read.key; time = time; client = me.number }) r
  pub carried :
      IsCarried me.cluster (map carried_versions replies)
      (record { version = read.version; dependency = read.dependency })

-- the frames are bytes
abbrev pub AreBytes : List Step → Type 0
AreBytes steps = (frame : List ℕ) → Contains steps (Frame frame) → IsBytes frame

-- the transaction that a slot has formed has this id, and each of its reads was shown
pub record IsOfShown (me : ClientSelf) (steps : List Step) (client : ClientValue) (x : List ℕ) : Type 0 where
  pub slot : ℕ
  pub pursuit : PursuitValue
  pub formed : pursuit_in client slot ≡ Some pursuit
  pub named : id pursuit.transaction ≡ x
  pub shown : (read : ReadPart) → Contains pursuit.transaction.reads read →
      IsShown me steps pursuit.transaction.time read

-- each id that is signed is that of such a transaction
abbrev pub ReadsWereShown : Type 0
ReadsWereShown =
    (me : ClientSelf) (pen : PenValue) (steps : List Step) (x : List ℕ) → IsSetting me.cluster → AreBytes steps →
    Contains (signed_in me (empty_client pen) steps) (TransactionWords x) →
    IsOfShown me steps (client_after me (empty_client pen) steps) x
