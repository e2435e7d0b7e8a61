-- Which place of the pen each signed word takes, and where its signature stands.
use Rattle.std.specs.Prelude.{◌≡◌, ◌+◌, ◌⊎◌, ℕ, List, [], ◌∷◌, Option, Some, Contains, slice_get}
use Rattle.basil_types.specs.declared.party.Decision.{Decision}
use Rattle.basil_types.specs.declared.party.Party.TheVariants.{Replica}
use Rattle.basil_types.specs.Words.{SignedWords, words_of}
use Rattle.frame_views.specs.Signed.{SignedBy}
use Rattle.frame_views.specs.Signed as messages
use Rattle.node_steps.specs.Envelopes.{EnvelopeValue}
use Rattle.replica_core.specs.Known.{logged_with}
use Rattle.replica_core.specs.Replicas.{ReplicaSelf, BookValue, Done, LoggedEntry}
use Rattle.replica_core.specs.Signing.{log_words, vote_words}
use Rattle.txn_table.specs.Entries.{EntryValue, Voted}
use Rattle.txn_table.specs.Tables.{id_of}
use Rattle.replica_laws.specs.Steps.{Handed, signed_in, step}

-- ---- where a signature stands

-- this replica's, of these words
abbrev pub own_signed : ReplicaSelf → SignedWords → (signature : List ℕ) → SignedBy
own_signed me words signature =
    record { party = Replica me.home.shard me.index; words = words_of words; signature = signature }

-- a message that is sent has it
abbrev pub IsSent : ReplicaSelf → List EnvelopeValue → SignedWords → (signature : List ℕ) → Type 0
IsSent me sent words signature =
    (e : EnvelopeValue) × Contains sent e × Contains (messages.signed_in e.message) (own_signed me words signature)

-- an entry stores it, with the vote that these words say
pub record IsStoredVote (me : ReplicaSelf) (entries : List EntryValue) (words : SignedWords) (signature : List ℕ)
    : Type 0 where
  pub place : ℕ
  pub entry : EntryValue
  pub decision : Decision
  pub proof : Option ℕ
  pub at : slice_get entries place ≡ Some entry
  pub vote : entry.vote ≡ Voted decision signature proof
  pub said : words ≡ vote_words me (id_of entry) decision

-- it is stored with the logged decision that these words say
pub record IsStoredReply (me : ReplicaSelf) (logged : List LoggedEntry) (words : SignedWords) (signature : List ℕ)
    : Type 0 where
  pub entry : LoggedEntry
  pub found : logged_with logged entry.id ≡ Some entry
  pub reply : entry.reply ≡ Some signature
  pub said : words ≡ log_words me entry.id entry.cell

-- it is sent, or stored in the book that is left
abbrev pub Gives : ReplicaSelf → Done → SignedWords → (signature : List ℕ) → Type 0
Gives me done words signature =
    IsSent me done.sent words signature
    ⊎ IsStoredVote me done.book.entries words signature
    ⊎ IsStoredReply me done.book.logged words signature

-- ---- places of the pen

-- what each step does, in order
abbrev pub all_done : ReplicaSelf → BookValue → List Handed → List Done
all_done me book [] = []
all_done me book (h ∷ hs) = step me book h ∷ all_done me (step me book h).book hs

-- one of these steps signs the words, and gives the signature that the pen has of them at this place
pub record TakesPlace (me : ReplicaSelf) (steps : List Done) (place : ℕ) (words : SignedWords) : Type 0 where
  pub done : Done
  pub among : Contains steps done
  pub signed : Contains done.signed words
  pub given : Gives me done words (me.signing.gives place (words_of words))

-- what is signed in turn takes the places of the pen in turn: the n-th words the n-th place, from the book's first on
abbrev pub WordsTakePlaces : Type 0
WordsTakePlaces =
    (me : ReplicaSelf) (book : BookValue) (hs : List Handed) (n : ℕ) (words : SignedWords) →
    slice_get (signed_in me book hs) n ≡ Some words →
    TakesPlace me (all_done me book hs) (book.pen.spent + n) words
