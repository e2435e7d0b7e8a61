-- What is opened is what the bytes hold, and what is bad is bad there alone.
use Rattle.std.proofs.Common.{◌≡◌, ℕ, ◌<◌, List, Option, Some, Result, Ok, Err, refl, subst, ◌∙◌}
use Rattle.std.specs.Prelude.{IfOk, MatchResult}
use Rattle.journal_disk.specs.declared.disk.Disk as disks
use Rattle.journal_disk.specs.Disk.{DiskState, keeps}
use Rattle.journal_records.specs.declared.limits.TheConstants.{JOURNAL_LIMIT}
use Rattle.keyring.specs.declared.verifier.Verifier as verifiers
use Rattle.keyring.specs.declared.signer.Signer as signers
use Rattle.node_steps.specs.Pens.{PenValue}
use Rattle.replica_core.specs.Replicas.{ReplicaSelf, empty_book}
use Rattle.replica_core.specs.Shown.{own}
use Rattle.replica_laws.specs.Steps.{Handed}
use Rattle.node_journal.specs.declared.fault.JournalFault.{JournalFault}
use Rattle.node_journal.specs.declared.fault.JournalFault.TheVariants.{DiskFault, BadJournal, NoMemory}
use Rattle.node_journal.specs.declared.fault.Refused.{Refused}
use Rattle.node_journal.specs.declared.journaled.Journaled.{Journaled}
use Rattle.node_journal.specs.Journals.{AcceptsAll, Keeps}
use Rattle.node_journal.specs.Opening.{IsAt, IsBad, IsBadAt, IsNotBad}
use Rattle.node_journal.specs.Replicas.{Reflects}
use Rattle.node_journal.specs.Retracing.{StandsLast}
use Rattle.node_journal.proofs.BadLaws.{bad-one, keeps-one, never-both}
use Rattle.node_journal.proofs.RetracingLaws.{reflects-behind}

module _ (me : ReplicaSelf) (begun : PenValue) (bytes : List ℕ) where
  good-fault : (hs : List Handed) → Keeps me begun hs bytes → (fault : JournalFault) → IsBad me begun bytes fault → IsNotBad fault
  good-fault hs k DiskFault b = tt
  good-fault hs k (BadJournal place) b = never-both me begun bytes hs place k b
  good-fault hs k NoMemory b = tt

  bad-fault : (place : ℕ) → IsBadAt me begun bytes place → (fault : JournalFault) → IsBad me begun bytes fault → IsAt place fault
  bad-fault place at DiskFault b = tt
  bad-fault place at (BadJournal other) b = bad-one me begun bytes other place b at
  bad-fault place at NoMemory b = tt

-- the frames of the records were taken, or the bytes are bad
pub record Opened {V S D : Type 0} {v : verifiers.Ghosts V} {g : signers.Ghosts S} {d : disks.Ghosts D}
    (result : Result (Journaled V S D v g d) (Refused D)) (me : ReplicaSelf) (begun : PenValue) (s : DiskState) : Type 0 where
  pub last : MatchResult result (λ j. StandsLast j begun s.contents) (λ r. IsBad me begun s.contents r.fault)
  pub own : IfOk result (λ j. own j.replica ≡ me)
  pub told : IfOk result (λ j. d.told j.disk ≡ Some (keeps s))

pub opened-by : {V S D : Type 0} {v : verifiers.Ghosts V} {g : signers.Ghosts S} {d : disks.Ghosts D}
    (result : Result (Journaled V S D v g d) (Refused D)) (mid me : ReplicaSelf) (begun : PenValue) (s : DiskState)
    (told : Option DiskState) → MatchResult result (λ j. StandsLast j begun s.contents) (λ r. IsBad mid begun s.contents r.fault) →
    IfOk result (λ j. own j.replica ≡ mid) → MatchResult result (λ j. d.told j.disk ≡ told) (λ r. d.told r.disk ≡ told) →
    mid ≡ me → told ≡ Some (keeps s) → Opened result me begun s
opened-by (Ok j) mid me begun s told last o t same is = record { last = last; own = o ∙ same; told = t ∙ is }
opened-by (Err r) mid me begun s told last o t same is =
    record { last = subst (λ (m : ReplicaSelf). IsBad m begun s.contents r.fault) same last; own = tt; told = tt }

module _ {V S D : Type 0} {v : verifiers.Ghosts V} {g : signers.Ghosts S} {d : disks.Ghosts D} (me : ReplicaSelf) (begun : PenValue)
    (s : DiskState) where
  last-keeps : (j : Journaled V S D v g d) → own j.replica ≡ me → (l : StandsLast j begun s.contents) → Keeps me begun l.hs s.contents
  last-keeps j same l =
      record {
        holds = l.holds;
        near = subst (λ (n : ℕ). n < JOURNAL_LIMIT) l.stands.gate j.near;
        accepted = subst (λ (m : ReplicaSelf). AcceptsAll m (empty_book begun) l.hs) same l.stands.replica.accepted;
      }

  pub opened-good : (result : Result (Journaled V S D v g d) (Refused D)) → Opened result me begun s → (hs : List Handed) →
      Keeps me begun hs s.contents → MatchResult result (λ j. Reflects j begun hs) (λ r. IsNotBad r.fault)
  opened-good (Ok j) o hs k =
      subst (Reflects j begun) (keeps-one me begun s.contents o.last.hs hs (last-keeps j o.own o.last) k)
      (reflects-behind j begun o.last.hs (keeps s) o.last.stands o.told o.last.holds (s.past, refl))
  opened-good (Err r) o hs k = good-fault me begun s.contents hs k r.fault o.last

  pub opened-bad : (result : Result (Journaled V S D v g d) (Refused D)) → Opened result me begun s → (place : ℕ) →
      IsBadAt me begun s.contents place → MatchResult result (λ _. ⊥) (λ r. IsAt place r.fault)
  opened-bad (Ok j) o place b = never-both me begun s.contents o.last.hs place (last-keeps j o.own o.last) b
  opened-bad (Err r) o place b = bad-fault me begun s.contents place b r.fault o.last

  pub opened-found : (result : Result (Journaled V S D v g d) (Refused D)) → Opened result me begun s →
      MatchResult result (λ _. (hs : List Handed) × Keeps me begun hs s.contents) (λ r. IsBad me begun s.contents r.fault)
  opened-found (Ok j) o = (o.last.hs, last-keeps j o.own o.last)
  opened-found (Err r) o = o.last
