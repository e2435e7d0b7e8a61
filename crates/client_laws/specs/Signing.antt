-- What a client signs: the id of each transaction that it began and formed, once.
use Rattle.std.specs.Prelude.{◌≡◌, ◌+◌, ℕ, Bool, false, ◌&&◌, List, Some, filter, is_some, length, slice_get}
use Rattle.std.specs.Str.{bytes_eq}
use Rattle.basil_types.specs.Transaction.{id}
use Rattle.basil_types.specs.Words.{SignedWords, TransactionWords, VoteWords, ReadReplyWords, LogReplyWords}
use Rattle.basil_types.specs.Words.{ElectionWords, ProposalWords, words_of}
use Rattle.client_recover.specs.Taken.{PursuitValue}
use Rattle.node_steps.specs.Pens.{PenValue}
use Rattle.client_core.specs.Clients.{ClientSelf, ClientValue, SlotValue, empty_client}
use Rattle.client_core.specs.Slots.{is_named}
use Rattle.client_laws.specs.Deciding.{pursuit_in}
use Rattle.client_laws.specs.Steps.{Step, client_after, signed_in}

-- ---- places of the pen

-- this many words were signed between these clients
pub record Spends (old new : ClientValue) (count : ℕ) : Type 0 where
  pub spent : new.pen.spent ≡ old.pen.spent + count
  pub left : new.pen.left + count ≡ old.pen.left

abbrev pub PlacesNeverRepeat : Type 0
PlacesNeverRepeat =
    (me : ClientSelf) (client : ClientValue) (steps : List Step) →
    Spends client (client_after me client steps) (length (signed_in me client steps))

-- the transaction that a slot has formed has this id, and the signature that the pen gives of it at this place
pub record IsSignedAt (me : ClientSelf) (client : ClientValue) (place : ℕ) (x : List ℕ) : Type 0 where
  pub slot : ℕ
  pub pursuit : PursuitValue
  pub formed : pursuit_in client slot ≡ Some pursuit
  pub named : id pursuit.transaction ≡ x
  pub given : pursuit.signature ≡ me.signing.gives place (words_of (TransactionWords x))

-- what is signed in turn are such ids, each at a place of its own: the n-th at the n-th place, from the pen's first on
abbrev pub WordsTakePlaces : Type 0
WordsTakePlaces =
    (me : ClientSelf) (pen : PenValue) (steps : List Step) (n : ℕ) (words : SignedWords) →
    slice_get (signed_in me (empty_client pen) steps) n ≡ Some words →
    (x : List ℕ) × (words ≡ TransactionWords x)
    × IsSignedAt me (client_after me (empty_client pen) steps) (pen.spent + n) x

-- ---- ids

abbrev pub is_id : List ℕ → SignedWords → Bool
is_id x (TransactionWords named) = bytes_eq x named
is_id x (VoteWords v) = false
is_id x (ReadReplyWords r) = false
is_id x (LogReplyWords r) = false
is_id x (ElectionWords w) = false
is_id x (ProposalWords p) = false

-- how often an id was signed
abbrev pub signed_with : List ℕ → List SignedWords → ℕ
signed_with x words = length (filter (is_id x) words)

-- how many transactions were begun and formed
abbrev pub formed_count : List SlotValue → ℕ
formed_count slots = length (filter (λ (s : SlotValue). s.begun && is_some s.pursuit) slots)

-- how many of them have this id
abbrev pub formed_with : List ℕ → List SlotValue → ℕ
formed_with x slots = length (filter (λ (s : SlotValue). s.begun && is_named x s) slots)

-- for each transaction that was begun and formed its id is signed once, and nothing else is signed
pub record SignsOnce (slots : List SlotValue) (words : List SignedWords) : Type 0 where
  pub each : (x : List ℕ) → signed_with x words ≡ formed_with x slots
  pub all : length words ≡ formed_count slots

abbrev pub SignedOncePerSlot : Type 0
SignedOncePerSlot =
    (me : ClientSelf) (pen : PenValue) (steps : List Step) →
    SignsOnce (client_after me (empty_client pen) steps).slots (signed_in me (empty_client pen) steps)
