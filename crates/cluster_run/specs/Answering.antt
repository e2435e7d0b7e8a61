-- Each answer of a replica is a list of lawful acts.
use Rattle.std.specs.Prelude.{◌≡◌, ℕ, ◌<◌, ◌++◌, List, Bool, true, Some, Ok, Contains}
use Rattle.std.specs.List.{IsDistinct}
use Rattle.std.specs.Str.{bytes_eq}
use Rattle.basil_types.specs.Limits.{IsU64}
use Rattle.basil_types.specs.declared.party.Party.{Party}
use Rattle.basil_types.specs.declared.party.Party.TheVariants.{Replica}
use Rattle.basil_types.specs.Setting.{Setting, IsSetting}
use Rattle.basil_types.specs.Transaction.{TransactionValue, IsTransaction, id}
use Rattle.basil_types.specs.Words.{SignedWords, words_of, AreWords}
use Rattle.certificates.specs.Accepted.{Accepted, accepts}
use Rattle.certificates.specs.Deciding.{Aborts}
use Rattle.fallback_leader.specs.declared.words.KeptWord.{KeptWord}
use Rattle.fallback_leader.specs.Elections.{AreApart}
use Rattle.frame_views.specs.Fitting.{FitsMessage, bounds_of}
use Rattle.frame_views.specs.Signed.{SignedBy, signed_in}
use Rattle.frame_views.specs.Values.{MessageValue, PairValue}
use Rattle.quorum_laws.specs.Numbers.{replicas}
use Rattle.decision_log.specs.declared.cell.LogCell.{LogCell}
use Rattle.txn_table.specs.Entries.{EntryValue}
use Rattle.txn_table.specs.Tables.{ids_of}
use Rattle.replica_core.specs.Replicas.{ReplicaSelf, BookValue, LoggedEntry, Done}
use Rattle.replica_core.specs.Answers.{answer_message}
use Rattle.agreement_laws.specs.Words as laws
use Rattle.agreement_laws.specs.Settings as settings
use Rattle.agreement_laws.specs.Certificates.{Signed, Says}
use Rattle.cluster_run.specs.Settings.{Lookup, Finds, setting, word_as}
use Rattle.law_joins.specs.Shown.{decision_of as decision_as}
use Rattle.frame_views.specs.Carried.{transactions_in, pairs_in}
use Rattle.cluster_run.specs.Acting.{node, Leads, FindsEach}

-- What is signed and shown when a message is handled: which words may be shown as a party's (it is faulty, or signed
-- them), what each replica signed, and of which transactions an abort certificate was shown.
pub record Moment : Type 0 where
  pub cluster : Setting
  pub faulty : ℕ → ℕ → Bool
  pub tx : Lookup
  pub said : Accepted
  pub signed : Signed
  pub aborted : laws.Id → Bool

abbrev pub setting_of : Moment → settings.Setting
setting_of w = setting w.cluster w.faulty w.tx

-- what may be shown as a replica's words, it said
abbrev pub IsBacked : Moment → Type 0
IsBacked w =
    (s r : ℕ) (words : SignedWords) (signature : List ℕ) (word : laws.Word) →
    w.said (Replica s r) (words_of words) signature ≡ true → AreWords words → word_as words ≡ Some word →
    Says (setting_of w) w.signed s r word

-- a message that was seen: each signature that is accepted is of words that its party said, its transactions are those
-- of their ids, and what it proves to be aborted was shown
pub record IsSeen (w : Moment) (A : Accepted) (m : MessageValue) : Type 0 where
  pub fits : FitsMessage (bounds_of w.cluster) m
  pub said : (g : SignedBy) → Contains (signed_in m) g → accepts A g ≡ true → accepts w.said g ≡ true
  pub looked : (t : TransactionValue) → Contains (transactions_in m) t → Finds w.tx t
  pub shown : (p : PairValue) → Contains (pairs_in m) p → Aborts A w.cluster p.transaction p.certificate →
      w.aborted (id p.transaction) ≡ true

-- an election word that was collected: its replica said it
pub record IsKept (w : Moment) (shard : ℕ) (k : KeptWord) : Type 0 where
  pub below : k.word.replica < replicas w.cluster.f
  pub said : Says (setting_of w) w.signed shard k.word.replica
      (laws.Election shard k.word.replica k.id (decision_as k.word.decision) k.view)

-- a book in order: known transactions are those of their ids, each once, and collected words were said
pub record IsInOrder (w : Moment) (shard : ℕ) (book : BookValue) : Type 0 where
  pub looked : FindsEach w.tx book.entries
  pub distinct : IsDistinct bytes_eq (ids_of book.entries)
  pub apart : AreApart book.kept
  pub kept : (k : KeptWord) → Contains book.kept k → IsKept w shard k

-- each answer of a replica to a seen message is a list of lawful acts
abbrev pub AnswersAreActs : Type 0
AnswersAreActs =
    (w : Moment) (me : ReplicaSelf) (now : ℕ) (from : Party) (book : BookValue) (own : List SignedWords)
    (m : MessageValue) (done : Done) →
    IsSetting w.cluster → me.home.cluster ≡ w.cluster → IsBacked w → IsSeen w me.accepts m →
    IsInOrder w me.home.shard book →
    answer_message me now from book m ≡ Ok done →
    Leads (setting_of w) w.signed w.aborted me.home.shard me.index (node own book) (node (own ++ done.signed) done.book)

-- and leaves a book in order
abbrev pub AnswersKeepOrder : Type 0
AnswersKeepOrder =
    (w : Moment) (me : ReplicaSelf) (now : ℕ) (from : Party) (book : BookValue) (m : MessageValue) (done : Done) →
    IsSetting w.cluster → me.home.cluster ≡ w.cluster → IsBacked w → IsSeen w me.accepts m →
    IsInOrder w me.home.shard book →
    answer_message me now from book m ≡ Ok done → IsInOrder w me.home.shard done.book

-- ---- sizes

pub record AreNumbers (cell : LogCell) : Type 0 where
  pub decided : IsU64 cell.decided
  pub current : IsU64 cell.current

-- known transactions have spellings, and logged views are numbers of 64 bits
pub record IsSized (book : BookValue) : Type 0 where
  pub entries : (e : EntryValue) → Contains book.entries e → IsTransaction e.transaction
  pub logged : (l : LoggedEntry) → Contains book.logged l → AreNumbers l.cell

abbrev pub AllWords : List SignedWords → Type 0
AllWords signed = (w : SignedWords) → Contains signed w → AreWords w

-- what is signed has its sizes
abbrev pub AnswersSignWords : Type 0
AnswersSignWords =
    (me : ReplicaSelf) (now : ℕ) (from : Party) (book : BookValue) (m : MessageValue) (done : Done) →
    FitsMessage (bounds_of me.home.cluster) m → IsSized book → answer_message me now from book m ≡ Ok done →
    AllWords done.signed × IsSized done.book
