-- What a client takes of read replies, in the terms of the laws.
use Rattle.std.specs.Prelude.{◌≡◌, ℕ, Bool, true, ◌⊎◌, List, map, Option, Some, None}
use Rattle.std.specs.List.{Contains}
use Rattle.basil_types.specs.declared.replayed.Latest.{Latest}
use Rattle.basil_types.specs.declared.transaction.parts.ReadPart.{ReadPart}
use Rattle.basil_types.specs.declared.version.Version.{Version}
use Rattle.basil_types.specs.Latest.{leaves}
use Rattle.basil_types.specs.Transaction.{TransactionValue, id, version_of}
use Rattle.basil_types.specs.Version.{genesis}
use Rattle.frame_views.specs.Values.{CommittedValue, ReadValue, ReadReplyValue}
use Rattle.certificates.specs.Accepted.{Accepted}
use Rattle.client_reads.specs.declared.choice.Choice.{Choice}
use Rattle.client_reads.specs.Choosing.{choice}
use Rattle.client_reads.specs.Replies.{IsValidReply}
use Rattle.client_reads.specs.Versions.{carried_versions}
use Rattle.agreement_laws.specs.Words.{Id}
use Rattle.serial_laws.specs.Bases.{Basis, IsText}
use Rattle.serial_laws.specs.Reads.{IsTaken}
use Rattle.serial_laws.specs.Runs.{State, Forms, IsLawful}

-- a reply carries a transaction, as committed or as prepared
abbrev pub Carries : ReadReplyValue → TransactionValue → Type 0
Carries reply t =
    ((part : CommittedValue) × (reply.committed ≡ Some part) × (part.transaction ≡ t)) ⊎ (reply.prepared ≡ Some t)

-- a reply that was seen: what it carries are texts of the run, and the commit certificate in it was shown
pub record IsSeenReply (b : Basis) (shown : Id → Bool) (reply : ReadReplyValue) : Type 0 where
  pub texts : (t : TransactionValue) → Carries reply t → IsText b t
  pub certified : (part : CommittedValue) → reply.committed ≡ Some part → shown (id part.transaction) ≡ true

-- all of them were seen, and are valid
abbrev pub AreSeen : Accepted → Basis → (shown : Id → Bool) → ReadValue → List ReadReplyValue → Type 0
AreSeen A b shown read replies =
    (reply : ReadReplyValue) → Contains replies reply → IsValidReply A b.numbers read reply × IsSeenReply b shown reply

-- one of the replies carries a transaction of this version
pub record CarriesVersion (replies : List ReadReplyValue) (v : Version) (t : TransactionValue) : Type 0 where
  pub reply : ReadReplyValue
  pub given : Contains replies reply
  pub carries : Carries reply t
  pub version : version_of t ≡ v

abbrev pub choice_among : Basis → List ReadReplyValue → Choice
choice_among b replies = choice b.numbers (map carried_versions replies)

-- the read that the client's transaction then has
abbrev pub read_part : ReadValue → Choice → ReadPart
read_part read c = record { key = read.key; version = c.version; dependency = c.dependency }

-- what is carried at the chosen version leaves what the laws let a correct client take; where it is genesis that is
-- nothing, and else something is carried
pub record IsTakenWell (b : Basis) (shown : Id → Bool) (read : ReadValue) (replies : List ReadReplyValue) (c : Choice)
    : Type 0 where
  pub absent : c.version ≡ genesis → IsTaken b shown (read_part read c) None
  pub found : (t : TransactionValue) → CarriesVersion replies c.version t →
      IsTaken b shown (read_part read c) (leaves t read.key)
  pub some : (c.version ≡ genesis) ⊎ ((t : TransactionValue) × CarriesVersion replies c.version t)

abbrev pub ChoicesAreTaken : Type 0
ChoicesAreTaken =
    (A : Accepted) (b : Basis) (shown : Id → Bool) (read : ReadValue) (replies : List ReadReplyValue) →
    AreSeen A b shown read replies → IsTakenWell b shown read replies (choice_among b replies)

-- ---- a transaction that a client forms

-- the read that gave it this one
abbrev pub read_of : TransactionValue → ReadPart → ReadValue
read_of t r = record { key = r.key; time = t.time; client = t.client }

-- the read is the choice among valid replies that were seen, and this is what they gave the client: nothing at genesis,
-- and else what is carried at the chosen version leaves at the key
pub record IsReadBy (A : Accepted) (b : Basis) (shown : Id → Bool) (t : TransactionValue)
    (given : (key : List ℕ) → Option Latest) (r : ReadPart) : Type 0 where
  pub replies : List ReadReplyValue
  pub took : AreSeen A b shown (read_of t r) replies
  pub chosen : r ≡ read_part (read_of t r) (choice_among b replies)
  pub absent : r.version ≡ genesis → given r.key ≡ None
  pub found : (u : TransactionValue) → CarriesVersion replies r.version u → given r.key ≡ leaves u r.key

-- a client that reads so may sign
abbrev pub FormsAreLawful : Type 0
FormsAreLawful =
    (A : Accepted) (b : Basis) (st : State) (t : TransactionValue) (given : (key : List ℕ) → Option Latest) →
    IsText b t →
    ((r : ReadPart) → Contains t.reads r → IsReadBy A b st.committed t given r) →
    IsLawful b st (Forms (id t) given)
