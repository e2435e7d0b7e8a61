-- What a stop leaves of a journal, and the replica that starts again from that.
use Rattle.std.proofs.Common.{◌≡◌, ◌<◌, ℕ, List, [], ◌∷◌, ◌++◌, sym, ap, subst, ◌∙◌, inl, inr, Option, Some, None}
use Rattle.basil_types.specs.Setting.{Setting}
use Rattle.certificates.specs.Accepted.{Accepted}
use Rattle.keyring.specs.declared.verifier.Verifier as verifiers
use Rattle.keyring.specs.declared.signer.Signer as signers
use Rattle.keyring.specs.Signing.{Signing}
use Rattle.journal_disk.specs.declared.disk.Disk as disks
use Rattle.journal_disk.specs.declared.disk.Stop.{Stop}
use Rattle.journal_disk.specs.Disk.{DiskState, OnTold}
use Rattle.journal_disk.specs.Foreseen.{Foreseen, OnStopped, StopState}
use Rattle.journal_disk.specs.Memory.{awaiting, goes_on}
use Rattle.journal_records.specs.declared.limits.TheConstants.{JOURNAL_LIMIT}
use Rattle.journal_records.specs.Journal.{EndsAt, last_gate}
use Rattle.journal_records.specs.Stopping as records
use Rattle.node_journal.specs.declared.journaled.Journaled.{Journaled}
use Rattle.node_journal.specs.Journals.{AcceptsAll, Keeps, entries_of}
use Rattle.node_journal.specs.Opening.{self_in}
use Rattle.node_journal.specs.Replicas.{Reflects}
use Rattle.node_steps.specs.Pens.{PenValue}
use Rattle.replica_core.specs.declared.replica.Replica.{Replica}
use Rattle.replica_core.specs.Replicas.{ReplicaSelf, empty_book}
use Rattle.replica_core.specs.Shown.{own}
use Rattle.replica_laws.specs.Steps.{Handed}
use Rattle.run_journals.specs.declared.took.Took.TheVariants as tooks
use Rattle.run_journals.specs.Journals.{JournalValue, after_stop}
use Rattle.run_journals.specs.Kept.{IsGoing, IsLeft, going, in_its_write}

keeps-by : (me : ReplicaSelf) (begun : PenValue) (hs : List Handed) (end : ℕ) (t : Option DiskState) → EndsAt (entries_of hs) end t →
    last_gate (entries_of hs) < JOURNAL_LIMIT → AcceptsAll me (empty_book begun) hs → OnTold (λ s. Keeps me begun hs s.contents) t
keeps-by me begun hs end (Some s) at near all = record { holds = at.disk.holds; near = near; accepted = all }
keeps-by me begun hs end None at near all = tt

module _ {V S D : Type 0} {v : verifiers.Ghosts V} {g : signers.Ghosts S} {d : disks.Ghosts D} where
  -- a stop awaits now
  pub going-awaits : (old new : Journaled V S D v g d) (me : ReplicaSelf) (begun : PenValue) (stop : Stop) (x : JournalValue) →
      IsGoing me begun old None x → new.replica ≡ old.replica → Reflects new begun x.taken →
      d.stops new.disk ≡ awaiting stop (d.stops old.disk) → IsGoing me begun new (Some (in_its_write stop)) x
  going-awaits old new me begun stop x k same r s =
      record {
        own = ap (λ (j : Replica V S v g). own j) same ∙ k.own;
        reflects = r;
        stops = s ∙ ap (awaiting stop) k.stops;
      }

  -- where nothing was written the disk holds what it held
  pub left-still : (j : Journaled V S D v g d) (me : ReplicaSelf) (begun : PenValue) (awaits : Option Foreseen) (x : JournalValue) →
      IsGoing me begun j awaits x → IsLeft me begun j x
  left-still j me begun awaits x k =
      record {
        own = k.own;
        keeps = keeps-by me begun x.taken j.end (d.told j.disk) k.reflects.disk
            (subst (λ (n : ℕ). n < JOURNAL_LIMIT) k.reflects.disk.gate j.near)
            (subst (λ (m : ReplicaSelf). AcceptsAll m (empty_book begun) x.taken) k.own k.reflects.replica.accepted);
        happened = ap (λ (s : StopState). s.happened) k.stops;
      }

  -- where the stop came the disk holds what it left
  pub left-cut : (old new : Journaled V S D v g d) (me : ReplicaSelf) (begun : PenValue) (stop : Stop) (x : JournalValue) (h : Handed) →
      IsGoing me begun old (Some (in_its_write stop)) x → own new.replica ≡ own old.replica →
      OnStopped (Keeps (own old.replica) begun (records.after_stop (in_its_write stop) x.taken h)) stop (d.stops old.disk)
      (d.stops new.disk) (d.told new.disk) → (d.stops new.disk).awaits ≡ None → IsLeft me begun new (after_stop x h stop tooks.Taken)
  left-cut old new me begun stop x h k o (inl come) none =
      record {
        own = o ∙ k.own;
        keeps = subst
            (λ (m : ReplicaSelf).
            OnTold (λ s. Keeps m begun (records.after_stop (in_its_write stop) x.taken h) s.contents) (d.told new.disk)) k.own come.leaves;
        happened = ap (λ (s : StopState). s.happened) come.stops ∙ ap (λ (s : StopState). s.happened ++ stop ∷ []) k.stops;
      }
  left-cut old new me begun stop x h k o (inr still) none =
      let e = sym (ap (λ (s : StopState). s.awaits) still.stops) ∙ none in
      absurd cc

  -- the replica that started again is as it was after what the disk holds
  pub going-again : (new : Journaled V S D v g d) (me self : ReplicaSelf) (begun pen : PenValue) (stops : StopState) (x : JournalValue) →
      self ≡ me → pen ≡ begun → own new.replica ≡ self → Reflects new pen x.taken → d.stops new.disk ≡ goes_on stops →
      stops.happened ≡ x.stops → IsGoing me begun new None x
  going-again new me self begun pen stops x e f o r s h =
      record {
        own = o ∙ e;
        reflects = subst (λ (p : PenValue). Reflects new p x.taken) f r;
        stops = s ∙ ap (going None) h;
      }

-- a replica of this place, by what its keyring accepts and how its pen signs
pub self-same : (me : ReplicaSelf) (cluster : Setting) (shard index : ℕ) (accepts : Accepted) (signing : Signing) →
    me.home.cluster ≡ cluster → me.home.shard ≡ shard → me.index ≡ index → accepts ≡ me.accepts → signing ≡ me.signing →
    self_in cluster shard index accepts signing ≡ me
self-same me cluster shard index accepts signing c s i a g =
    ap (λ (n : Setting). self_in n shard index accepts signing) (sym c)
    ∙ ap (λ (n : ℕ). self_in me.home.cluster n index accepts signing) (sym s)
    ∙ ap (λ (n : ℕ). self_in me.home.cluster me.home.shard n accepts signing) (sym i)
    ∙ ap (λ (n : Accepted). self_in me.home.cluster me.home.shard me.index n signing) a
    ∙ ap (self_in me.home.cluster me.home.shard me.index me.accepts) g

pub keeps-same : (me self : ReplicaSelf) (begun pen : PenValue) (hs : List Handed) (bytes : List ℕ) → self ≡ me → pen ≡ begun →
    Keeps me begun hs bytes → Keeps self pen hs bytes
keeps-same me self begun pen hs bytes e f k =
    subst (λ (m : ReplicaSelf). Keeps m pen hs bytes) (sym e) (subst (λ (p : PenValue). Keeps me p hs bytes) (sym f) k)
