-- Planned work of one kind, as planned work.
use Rattle.std.specs.Prelude.{◌&&◌, Bool, Result, Ok, Err, is_some}
use Rattle.basil_types.specs.Transaction.{TransactionValue, id}
use Rattle.certificates.specs.Accepted.{Accepted}
use Rattle.keyring.specs.Signing.{Signing}
use Rattle.mvtso_check.specs.Standing.{StandsFor}
use Rattle.node_steps.specs.Pens.{PenValue}
use Rattle.replica_core.specs.declared.election.LeadWork.{LeadWork}
use Rattle.replica_core.specs.declared.logging.LogWork.{LogWork}
use Rattle.replica_core.specs.declared.parts.Parts.{Parts}
use Rattle.replica_core.specs.declared.plan.Work.{Work}
use Rattle.replica_core.specs.declared.plan.Work.TheVariants.{Known, Read, Log, Lead}
use Rattle.replica_core.specs.declared.reads.ReadWork.{ReadWork}
use Rattle.replica_core.specs.declared.refusal.Refusal.{Refusal}
use Rattle.replica_core.specs.declared.seat.Seat.{Seat}
use Rattle.replica_core.specs.declared.work.KnownWork.{KnownWork}
use Rattle.replica_core.specs.Known.{known_of, logged_with}
use Rattle.replica_core.specs.Leads.{kept_next}
use Rattle.replica_core.specs.Nodes.{book_shown}
use Rattle.replica_core.specs.Replicas.{ReplicaSelf, BookValue, Done}
use Rattle.replica_core.specs.Seats.{self_at}
use Rattle.replica_core.specs.SecondStage.{logs_here}
use Rattle.replica_core.specs.Telling.{IsPlanned}
use Rattle.replica_core.specs.Works.{perform_work}

abbrev pub as_known : Result KnownWork Refusal → Result Work Refusal
as_known (Ok w) = Ok (Known w)
as_known (Err e) = Err e

abbrev pub as_read : Result ReadWork Refusal → Result Work Refusal
as_read (Ok w) = Ok (Read w)
as_read (Err e) = Err e

abbrev pub as_log : Result LogWork Refusal → Result Work Refusal
as_log (Ok w) = Ok (Log w)
as_log (Err e) = Err e

abbrev pub as_lead : Result LeadWork Refusal → Result Work Refusal
as_lead (Ok w) = Ok (Lead w)
as_lead (Err e) = Err e

-- the planned work does what this answer says, whatever the keyring accepts, and in each book that the parts show
abbrev pub IsWorkOf :
    Seat → Signing → PenValue → (old new : Parts) → Result Work Refusal →
    (ReplicaSelf → BookValue → Result Done Refusal) → Type 0
IsWorkOf seat signing pen old new result answer =
    (accepts : Accepted) (book : BookValue) → StandsFor old.known.store old.known.table.entries book.noted →
    IsPlanned (perform_work signing (kept_next new.leading)) (book_shown book old pen) result
    (answer (self_at seat accepts signing) (book_shown book old pen))

-- a recovery is told what is logged
abbrev pub tells : ReplicaSelf → BookValue → TransactionValue → Bool
tells me book t = is_some (logged_with book.logged (id t)) && logs_here me (known_of book.entries t)
