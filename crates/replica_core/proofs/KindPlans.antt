-- Planned work of one kind is planned work.
use Rattle.std.proofs.Common.{ℕ, List, Ok, Err}
use Rattle.std.specs.Prelude.{IfOk, Result}
use Rattle.replica_core.specs.declared.election.LeadWork.{LeadWork}
use Rattle.replica_core.specs.declared.logging.LogWork.{LogWork}
use Rattle.replica_core.specs.declared.parts.Parts.{Parts}
use Rattle.replica_core.specs.declared.reads.ReadWork.{ReadWork}
use Rattle.replica_core.specs.declared.refusal.Refusal.{Refusal}
use Rattle.replica_core.specs.declared.work.KnownWork.{KnownWork}
use Rattle.replica_core.specs.Kinds.{as_known, as_read, as_log, as_lead}
use Rattle.replica_core.specs.KnownWorks as known
use Rattle.replica_core.specs.LeadWorks as lead
use Rattle.replica_core.specs.LogWorks as log
use Rattle.replica_core.specs.ReadWorks as read
use Rattle.replica_core.specs.Replicas.{BookValue, Done}
use Rattle.replica_core.specs.Telling.{IsPlanned}
use Rattle.replica_core.specs.Works.{CanPerform, perform_work}
use Rattle.keyring.specs.Signing.{Signing}
use Rattle.fallback_leader.specs.declared.words.KeptWord.{KeptWord}

module _ (signing : Signing) (kept : List KeptWord) (book : BookValue) where
  pub known_planned : (r : Result KnownWork Refusal) (a : Result Done Refusal) →
      IsPlanned (known.perform_known signing) book r a → IsPlanned (perform_work signing kept) book (as_known r) a
  known_planned (Ok w) a h = h
  known_planned (Err e) a h = h

  pub read_planned : (r : Result ReadWork Refusal) (a : Result Done Refusal) →
      IsPlanned (read.perform_read signing) book r a → IsPlanned (perform_work signing kept) book (as_read r) a
  read_planned (Ok w) a h = h
  read_planned (Err e) a h = h

  pub log_planned : (r : Result LogWork Refusal) (a : Result Done Refusal) →
      IsPlanned (log.perform_log signing) book r a → IsPlanned (perform_work signing kept) book (as_log r) a
  log_planned (Ok w) a h = h
  log_planned (Err e) a h = h

  pub lead_planned : (r : Result LeadWork Refusal) (a : Result Done Refusal) →
      IsPlanned (lead.perform_lead signing kept) book r a → IsPlanned (perform_work signing kept) book (as_lead r) a
  lead_planned (Ok w) a h = h
  lead_planned (Err e) a h = h

module _ (size left : ℕ) (parts : Parts) where
  pub known_ready : (r : Result KnownWork Refusal) → IfOk r (known.CanPerform size left parts.known)
      → IfOk (as_known r) (CanPerform size left parts)
  known_ready (Ok w) h = h
  known_ready (Err e) h = h

  pub read_ready : (r : Result ReadWork Refusal) → IfOk r (read.CanRead size left parts.known)
      → IfOk (as_read r) (CanPerform size left parts)
  read_ready (Ok w) h = h
  read_ready (Err e) h = h

  pub log_ready : (r : Result LogWork Refusal) → IfOk r (log.CanLog size left parts.known parts.logged)
      → IfOk (as_log r) (CanPerform size left parts)
  log_ready (Ok w) h = h
  log_ready (Err e) h = h

  pub lead_ready : (r : Result LeadWork Refusal) → IfOk r (lead.CanLead size left) → IfOk (as_lead r) (CanPerform size left parts)
  lead_ready (Ok w) h = h
  lead_ready (Err e) h = h
