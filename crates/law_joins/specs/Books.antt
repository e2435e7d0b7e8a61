-- A replica's book as the laws see it, and what a verdict or an outcome lets it do.
use Rattle.std.specs.Prelude.{◌≡◌, ℕ, Bool, List, Option, None, Some, option_map, slice_get}
use Rattle.std.specs.List.{Contains, IsDistinct}
use Rattle.std.specs.Str.{bytes_eq}
use Rattle.basil_types.specs.declared.party.Decision as parties
use Rattle.basil_types.specs.Transaction.{TransactionValue, id}
use Rattle.txn_table.specs.Entries as entries
use Rattle.txn_table.specs.Entries.{EntryValue, decision_of}
use Rattle.txn_table.specs.Released.{released}
use Rattle.txn_table.specs.Tables.{ids_of, place_of, entry_with}
use Rattle.txn_table.specs.declared.released.Home.{Home}
use Rattle.txn_table.specs.declared.released.Supposed.{Supposed}
use Rattle.mvtso_check.specs.declared.verdict.Verdict.TheVariants as given
use Rattle.mvtso_check.specs.Laws.{IsLetStand}
use Rattle.mvtso_check.specs.Verdict as verdicts
use Rattle.mvtso_check.specs.Verdict.{verdict}
use Rattle.agreement_laws.specs.Words.{Id}
use Rattle.agreement_laws.specs.Words as words
use Rattle.agreement_laws.specs.Replicas.{VoteState, Unvoted, Waiting, Cast, LogCell, Book, Votes, Ends, after}
use Rattle.agreement_laws.specs.Replicas.{IsClear, DependenciesCommitted, May}
use Rattle.agreement_laws.specs.Certificates.{Signed}
use Rattle.agreement_laws.specs.Runs.{put_id}
use Rattle.serial_laws.specs.Bases.{Basis, IsText, setting_of}
use Rattle.law_joins.specs.Shown as shown

abbrev pub state_of : entries.VoteValue → VoteState
state_of entries.Unvoted = Unvoted
state_of (entries.Waiting askers) = Waiting
state_of (entries.Voted vote signature proof) = Cast (shown.decision_of vote)

-- the vote and the outcome of an entry, if there is one
abbrev pub vote_at : Option EntryValue → VoteState
vote_at None = Unvoted
vote_at (Some e) = state_of e.vote

abbrev pub outcome_at : Option EntryValue → Option words.Decision
outcome_at None = None
outcome_at (Some e) = option_map shown.decision_of (decision_of e)

-- the book of the laws that these entries and log cells are
abbrev pub book_of : List EntryValue → (Id → Option LogCell) → Book
book_of es cells x =
    record { vote = vote_at (entry_with es x); outcome = outcome_at (entry_with es x); cell = cells x }

-- the transactions of the entries are texts of the run
abbrev pub AreTexts : Basis → List EntryValue → Type 0
AreTexts b es = (e : EntryValue) → Contains es e → IsText b e.transaction

-- where the verdict is to commit or to wait nothing that is held conflicts, and where it is to commit what the
-- transaction depends on is committed
pub record IsSound (b : Basis) (home : Home) (now : ℕ) (book : verdicts.Book) (cells : Id → Option LogCell)
    (t : TransactionValue) : Type 0 where
  pub clear : IsLetStand home now book t →
      IsClear (setting_of b) home.shard (book_of book.entries cells) (id t)
  pub ready : verdict home now book t ≡ given.Commit →
      DependenciesCommitted (setting_of b) home.shard (book_of book.entries cells) (id t)

abbrev pub VerdictsAreSound : Type 0
VerdictsAreSound =
    (b : Basis) (home : Home) (now : ℕ) (book : verdicts.Book) (cells : Id → Option LogCell) (t : TransactionValue) →
    b.numbers ≡ home.cluster → IsText b t → AreTexts b book.entries →
    IsSound b home now book cells t

-- ---- what an outcome releases

-- the book of the laws once the transaction of this id has ended so
abbrev pub ended : List EntryValue → (Id → Option LogCell) → Id → parties.Decision → Book
ended es cells y d = put_id (book_of es cells) y (after (Ends (shown.decision_of d)) (book_of es cells y))

-- a book with these outcomes, and with this one's vote
pub record IsLike (book other : Book) (x : Id) : Type 0 where
  pub outcomes : (z : Id) → (other z).outcome ≡ (book z).outcome
  pub vote : (other x).vote ≡ (book x).vote

-- the released transaction, and that its vote is lawful in each such book, so also after the releases before it
pub record IsReleasedWell (b : Basis) (home : Home) (es : List EntryValue) (book : Book) (place : ℕ)
    (vote : parties.Decision) : Type 0 where
  pub entry : EntryValue
  pub stands : slice_get es place ≡ Some entry
  pub lawful : (signed : Signed) (aborted : Id → Bool) (other : Book) → IsLike book other (id entry.transaction) →
      May (setting_of b) signed aborted home.shard other (id entry.transaction) (Votes (shown.decision_of vote))

abbrev pub ReleasesAreSound : Type 0
ReleasesAreSound =
    (b : Basis) (home : Home) (s : Supposed) (es : List EntryValue) (cells : Id → Option LogCell)
    (y : Id) (place : ℕ) (vote : parties.Decision) →
    b.numbers ≡ home.cluster → IsDistinct bytes_eq (ids_of es) → AreTexts b es →
    place_of es y ≡ Some s.place → Contains (released home s es) (place, vote) →
    IsReleasedWell b home es (ended es cells y s.outcome) place vote
