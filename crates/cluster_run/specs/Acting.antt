-- A replica's book as the argument for agreement sees it.
use Rattle.std.specs.Prelude.{◌≡◌, ℕ, List, [], ◌∷◌, Bool, Option, Some, None}
use Rattle.basil_types.specs.Words.{SignedWords}
use Rattle.decision_log.specs.declared.cell.LogCell.{LogCell}
use Rattle.txn_table.specs.Entries.{EntryValue}
use Rattle.txn_table.specs.Tables.{id_of, entry_with}
use Rattle.replica_core.specs.Replicas.{LoggedEntry, BookValue}
use Rattle.replica_core.specs.Known.{logged_with}
use Rattle.agreement_laws.specs.Words as laws
use Rattle.agreement_laws.specs.Replicas as acts
use Rattle.agreement_laws.specs.Runs.{Node, answered, MayAnswer}
use Rattle.agreement_laws.specs.Certificates.{Signed}
use Rattle.agreement_laws.specs.Settings as settings
use Rattle.law_joins.specs.Books.{vote_at, outcome_at}
use Rattle.law_joins.specs.Shown.{decision_of as decision_as}
use Rattle.cluster_run.specs.Settings.{Lookup, words_as}

abbrev pub cell_as : LogCell → acts.LogCell
cell_as cell = record { decision = decision_as cell.decision; decided = cell.decided; current = cell.current }

abbrev pub cell_in : Option LoggedEntry → Option acts.LogCell
cell_in None = None
cell_in (Some l) = Some (cell_as l.cell)

abbrev pub slot_with : Option EntryValue → Option LoggedEntry → acts.Slot
slot_with e l = record { vote = vote_at e; outcome = outcome_at e; cell = cell_in l }

abbrev pub slots : List EntryValue → List LoggedEntry → acts.Book
slots entries logged x = slot_with (entry_with entries x) (logged_with logged x)

-- a replica that has signed these words and has this book
abbrev pub node : List SignedWords → BookValue → Node
node signed book = record { own = words_as signed; book = slots book.entries book.logged }

-- a list of lawful acts leads from the one state of a replica to the other
pub record Leads (c : settings.Setting) (signed : Signed) (aborted : laws.Id → Bool) (s r : ℕ)
    (p q : Node) : Type 0 where
  pub acts : List (laws.Id × acts.Act)
  pub may : MayAnswer c signed aborted s r p acts
  pub ends : answered s r p acts ≡ q

-- each known transaction is that of its id
abbrev pub FindsEach : Lookup → List EntryValue → Type 0
FindsEach tx [] = Unit {0}
FindsEach tx (e ∷ es) = (tx (id_of e) ≡ e.transaction) × FindsEach tx es
