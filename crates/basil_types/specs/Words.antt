-- The six kinds of words that parties sign.
use Rattle.std.specs.Prelude.{◌≡◌, ℕ, ◌∷◌, ◌++◌, [], ◌≤◌, List, length}
use Rattle.std.specs.Int.{to_be_bytes, w64}
use Rattle.basil_types.specs.Limits.{IsU64, id_size, longest_key}
use Rattle.basil_types.specs.declared.party.Decision.{Decision}
use Rattle.basil_types.specs.declared.party.Decision.TheVariants.{Commit, Abort}
use Rattle.basil_types.specs.declared.version.Version.{Version}
use Rattle.basil_types.specs.Transaction.{short_text, version_bytes}

pub record VoteOf : Type 0 where
  pub shard : ℕ
  pub replica : ℕ
  pub id : List ℕ
  pub decision : Decision

pub record ReadReplyOf : Type 0 where
  pub shard : ℕ
  pub replica : ℕ
  pub key : List ℕ
  pub time : ℕ
  pub client : ℕ
  pub committed : Version
  pub prepared : Version

pub record LogReplyOf : Type 0 where
  pub shard : ℕ
  pub replica : ℕ
  pub id : List ℕ
  pub decision : Decision
  pub decided : ℕ
  pub current : ℕ

-- of an election word and of a proposal
pub record ViewOf : Type 0 where
  pub shard : ℕ
  pub replica : ℕ
  pub id : List ℕ
  pub decision : Decision
  pub view : ℕ

pub data SignedWords : Type 0 where
  TransactionWords : (id : List ℕ) → SignedWords
  VoteWords : (vote : VoteOf) → SignedWords
  ReadReplyWords : (reply : ReadReplyOf) → SignedWords
  LogReplyWords : (reply : LogReplyOf) → SignedWords
  ElectionWords : (word : ViewOf) → SignedWords
  ProposalWords : (proposal : ViewOf) → SignedWords

abbrev pub decision_byte : Decision → ℕ
decision_byte Commit = 0
decision_byte Abort = 1

abbrev pub view_bytes : ViewOf → List ℕ
view_bytes v = v.shard ∷ v.replica ∷ v.id ++ decision_byte v.decision ∷ to_be_bytes w64 v.view

-- the bytes that are signed
abbrev pub words_of : SignedWords → List ℕ
words_of (TransactionWords id) = 1 ∷ id
words_of (VoteWords v) = 2 ∷ v.shard ∷ v.replica ∷ v.id ++ decision_byte v.decision ∷ []
words_of (ReadReplyWords r) =
    3 ∷ r.shard ∷ r.replica ∷ short_text r.key ++ to_be_bytes w64 r.time ++ r.client ∷ version_bytes r.committed
    ++ version_bytes r.prepared
words_of (LogReplyWords r) =
    4 ∷ r.shard ∷ r.replica ∷ r.id ++ decision_byte r.decision ∷ to_be_bytes w64 r.decided ++ to_be_bytes w64 r.current
words_of (ElectionWords w) = 5 ∷ view_bytes w
words_of (ProposalWords p) = 6 ∷ view_bytes p

-- a version whose numbers and id have their sizes
pub record FitsVersion (v : Version) : Type 0 where
  pub time : IsU64 v.time
  pub id : length v.id ≡ id_size

pub record FitsReply (r : ReadReplyOf) : Type 0 where
  pub some : 1 ≤ length r.key
  pub short : length r.key ≤ longest_key
  pub time : IsU64 r.time
  pub committed : FitsVersion r.committed
  pub prepared : FitsVersion r.prepared

pub record FitsLog (r : LogReplyOf) : Type 0 where
  pub id : length r.id ≡ id_size
  pub decided : IsU64 r.decided
  pub current : IsU64 r.current

pub record FitsView (v : ViewOf) : Type 0 where
  pub id : length v.id ≡ id_size
  pub view : IsU64 v.view

-- fields of their sizes
abbrev pub AreWords : SignedWords → Type 0
AreWords (TransactionWords id) = length id ≡ id_size
AreWords (VoteWords v) = length v.id ≡ id_size
AreWords (ReadReplyWords r) = FitsReply r
AreWords (LogReplyWords r) = FitsLog r
AreWords (ElectionWords w) = FitsView w
AreWords (ProposalWords p) = FitsView p

-- equal words have equal fields, whatever their kinds
abbrev pub WordsTellFields : Type 0
WordsTellFields = (a b : SignedWords) → AreWords a → AreWords b → words_of a ≡ words_of b → a ≡ b
