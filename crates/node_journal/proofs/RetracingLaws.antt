-- A replica that takes one frame again.
use Rattle.std.proofs.Common.{◌≡◌, ◌+◌, ◌^◌, ◌<◌, List, [], ◌∷◌, ◌++◌, false, Some, Ok}
use Rattle.std.proofs.Common.{sym, ap, subst, ◌∙◌, length-append, arith}
use Rattle.journal_disk.specs.declared.disk.Disk as disks
use Rattle.journal_disk.specs.Disk.{DiskState, OnTold}
use Rattle.journal_records.specs.Journal.{Holds, HoldsForGood, IsKept, last_gate}
use Rattle.keyring.specs.declared.verifier.Verifier as verifiers
use Rattle.keyring.specs.declared.signer.Signer as signers
use Rattle.node_steps.specs.Pens.{PenValue, pen_value}
use Rattle.replica_core.specs.declared.replica.Replica.{Replica}
use Rattle.replica_core.specs.declared.seat.Seat.{Seat}
use Rattle.replica_core.specs.Nodes.{Shows}
use Rattle.replica_core.specs.Seats.{self_at}
use Rattle.replica_core.specs.Replicas.{Done, empty_book}
use Rattle.replica_core.specs.Shown.{ShowsBook, own}
use Rattle.replica_laws.specs.Steps.{Handed}
use Rattle.node_journal.specs.declared.journaled.Journaled.{Journaled}
use Rattle.node_journal.specs.Entries.{entry_of}
use Rattle.node_journal.specs.Journals.{entries_of}
use Rattle.node_journal.specs.Replicas.{HasTaken, Reflects}
use Rattle.node_journal.specs.Retracing.{StandsBehind}
use Rattle.node_journal.specs.Steps.{answer_after}
use Rattle.node_journal.proofs.KeepingLaws.{entries-push}
use Rattle.node_journal.proofs.StepLaws.{taken-more}

pub stands-more : {V S D : Type 0} {v : verifiers.Ghosts V} {g : signers.Ghosts S} {d : disks.Ghosts D}
    (old new : Journaled V S D v g d) (begun : PenValue) (before : List Handed) (h : Handed) (done : Done) → StandsBehind old begun before →
    new.closed ≡ false → new.records ≡ old.records + 1 → new.end ≡ last_gate (entries_of before ++ entry_of h ∷ []) →
    own new.replica ≡ own old.replica → h.now < 2 ^ 64 → answer_after (own old.replica) begun before h ≡ Ok done →
    ShowsBook new.replica done.book → StandsBehind new begun (before ++ h ∷ [])
stands-more old new begun before h done s ready count gate same small answered shows =
    record {
      ready = ready;
      count = omega (arith, count, s.count, length-append before (h ∷ []));
      gate = gate ∙ ap last_gate (sym (entries-push before h));
      replica = taken-more old.replica new.replica begun before h done same s.replica small answered shows;
    }

-- with another disk
pub stands-still : {V S D : Type 0} {v : verifiers.Ghosts V} {g : signers.Ghosts S} {d : disks.Ghosts D}
    (old new : Journaled V S D v g d) (begun : PenValue) (hs : List Handed) → StandsBehind old begun hs → new.closed ≡ old.closed →
    new.records ≡ old.records → new.end ≡ old.end → new.replica ≡ old.replica → StandsBehind new begun hs
stands-still {V} {S} {v = v} {g = g} old new begun hs s c r e same =
    record {
      ready = c ∙ s.ready;
      count = r ∙ s.count;
      gate = e ∙ s.gate;
      replica = subst (λ (q : Replica V S v g). HasTaken q begun hs) (sym same) s.replica;
    }

-- ---- where it begins and ends

pub own-new : {V S : Type 0} {v : verifiers.Ghosts V} {g : signers.Ghosts S} (replica : Replica V S v g) (seat : Seat) (keys : V)
    (signer : S) → replica.seat ≡ seat → replica.keys ≡ keys → replica.pen ≡ signer →
    own replica ≡ self_at seat (v.accepted keys) (g.fixed signer)
own-new {V} {S} {v} {g} replica seat keys signer s k p =
    ap (λ (x : Seat). self_at x (v.accepted replica.keys) (g.fixed replica.pen)) s
    ∙ ap (λ (x : V). self_at seat (v.accepted x) (g.fixed replica.pen)) k
    ∙ ap (λ (x : S). self_at seat (v.accepted keys) (g.fixed x)) p

pub shows-new : {V S : Type 0} {v : verifiers.Ghosts V} {g : signers.Ghosts S} (replica : Replica V S v g) (signer : S) →
    replica.pen ≡ signer → Shows replica.parts (pen_value (g.spent signer) (g.left_of signer))
    (empty_book (pen_value (g.spent signer) (g.left_of signer))) →
    ShowsBook replica (empty_book (pen_value (g.spent signer) (g.left_of signer)))
shows-new {S = S} {g = g} replica signer p shown =
    subst (λ (x : S). Shows replica.parts (pen_value (g.spent x) (g.left_of x))
    (empty_book (pen_value (g.spent signer) (g.left_of signer)))) (sym p) shown

pub reflects-behind : {V S D : Type 0} {v : verifiers.Ghosts V} {g : signers.Ghosts S} {d : disks.Ghosts D}
    (j : Journaled V S D v g d) (begun : PenValue) (hs : List Handed) (s : DiskState) → StandsBehind j begun hs →
    d.told j.disk ≡ Some s → Holds (entries_of hs) s.contents → IsKept s → Reflects j begun hs
reflects-behind j begun hs s b told holds kept =
    record {
      ready = b.ready;
      count = b.count;
      disk = record {
        gate = b.gate;
        disk = subst (OnTold (HoldsForGood (entries_of hs))) (sym told) (record { holds = holds; kept = kept });
      };
      replica = b.replica;
    }
