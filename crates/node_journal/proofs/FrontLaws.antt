-- What was taken is what the bytes begin with.
use Rattle.std.proofs.Common.{◌≡◌, ◌≢◌, ℕ, ◌<◌, List, [], ◌∷◌, ◌++◌, drop, get_or, Option, Some, Result, Ok, Err}
use Rattle.std.proofs.Common.{refl, sym, ap, subst, ◌∙◌, append_assoc, arith, false}
use Rattle.std.specs.List.{All, flat_map}
use Rattle.std.proofs.lemmas.List.{append-nil, drop_at}
use Rattle.std.proofs.lemmas.List.Elements.{All-push}
use Rattle.std.proofs.lemmas.List.Concat.{flat_map-append}
use Rattle.basil_types.specs.declared.outbox.Outbox.{Outbox}
use Rattle.journal_disk.specs.declared.disk.Disk as disks
use Rattle.journal_disk.specs.Disk.{DiskState, OnTold}
use Rattle.journal_records.specs.Found.{BeginsClosed, BeginsWith}
use Rattle.journal_records.specs.Journal.{Holds, IsEntry, last_gate, opened}
use Rattle.journal_records.specs.declared.limits.TheConstants.{JOURNAL_LIMIT}
use Rattle.keyring.specs.declared.verifier.Verifier as verifiers
use Rattle.keyring.specs.declared.signer.Signer as signers
use Rattle.node_steps.specs.Pens.{PenValue}
use Rattle.replica_core.specs.declared.parts.Parts.{Parts}
use Rattle.replica_core.specs.declared.refusal.Refusal.{Refusal}
use Rattle.replica_core.specs.Nodes.{Shows, Steps}
use Rattle.replica_core.specs.Replicas.{Done, empty_book}
use Rattle.replica_core.specs.Shown.{ShowsBook, own}
use Rattle.replica_laws.specs.Steps.{book_after}
use Rattle.node_journal.specs.declared.journaled.Journaled.{Journaled}
use Rattle.node_journal.specs.declared.fault.JournalFault.{JournalFault}
use Rattle.node_journal.specs.declared.fault.JournalFault.TheVariants.{DiskFault, BadJournal, NoMemory}
use Rattle.node_journal.specs.Opening.{HasNext, IsAt, IsBad}
use Rattle.node_journal.specs.Entries.{entry_of}
use Rattle.node_journal.specs.Journals.{entries_of}
use Rattle.node_journal.specs.Retracing.{GoesOn, StandsBehind, StandsFront, StandsLast}
use Rattle.node_journal.proofs.KeepingLaws.{entries-push}

pub on_told : (P : DiskState → Type 0) (told : Option DiskState) (s : DiskState) → told ≡ Some s → OnTold P told → P s
on_told P told s e h = subst (OnTold P) e h

pub record Stepped (a : Result Done Refusal) (parts : Parts) (pen : PenValue) : Type 0 where
  pub done : Done
  pub is : a ≡ Ok done
  pub shows : Shows parts pen done.book

pub stepped : (a : Result Done Refusal) (parts : Parts) (pen : PenValue) (old new : Outbox) → Steps parts pen old new (Ok tt) a →
    Stepped a parts pen
stepped (Ok done) parts pen old new s = record { done = done; is = refl; shows = s.book }
stepped (Err refusal) parts pen old new s = absurd s

behind-is : (es : List (List ℕ)) (bytes behind : List ℕ) (end : ℕ) → bytes ≡ flat_map opened es ++ behind → end ≡ last_gate es →
    drop end bytes ≡ behind
behind-is es bytes behind end are gate =
    ap (drop end) are ∙ drop_at (flat_map opened es) behind end (sym gate)

closed-holds : (es : List (List ℕ)) (bytes behind : List ℕ) (end : ℕ) → bytes ≡ flat_map opened es ++ behind → end ≡ last_gate es →
    All IsEntry es → BeginsClosed (drop end bytes) → Holds es bytes
closed-holds es bytes behind end are gate all t =
    record {
      each = all;
      gate = t.gate;
      closed = t.closed;
      behind = t.behind;
      are = are ∙ ap (λ (l : List ℕ). flat_map opened es ++ l) (sym (behind-is es bytes behind end are gate) ∙ t.are);
    }

module _ {V S D : Type 0} {v : verifiers.Ghosts V} {g : signers.Ghosts S} {d : disks.Ghosts D} (old new : Journaled V S D v g d)
    (begun : PenValue) (bytes : List ℕ) (f : StandsFront old begun bytes) where
  pub front-last : BeginsClosed (drop old.end bytes) → StandsBehind new begun f.hs → StandsLast new begun bytes
  front-last t s =
      record {
        hs = f.hs;
        holds = closed-holds (entries_of f.hs) bytes f.behind old.end f.are f.stands.gate f.each t;
        stands = s;
      }

  pub front-more : (entry : List ℕ) → BeginsWith entry (drop old.end bytes) → GoesOn new begun f.hs entry → StandsFront new begun bytes
  front-more entry t n =
      let es = entries_of f.hs in
      let e = entry_of n.handed in
      let rest : f.behind ≡ opened e ++ t.behind =
      sym (behind-is es bytes f.behind old.end f.are f.stands.gate) ∙ t.are
      ∙ ap (λ (x : List ℕ). opened x ++ t.behind) n.written in
      let fits : IsEntry e = subst IsEntry n.written t.fits in
      let flat : flat_map opened (es ++ e ∷ []) ≡ flat_map opened es ++ opened e =
      flat_map-append opened es (e ∷ []) ∙ ap (λ (l : List ℕ). flat_map opened es ++ l) (append-nil (opened e)) in
      record {
        hs = f.hs ++ n.handed ∷ [];
        behind = t.behind;
        each = subst (λ (l : List (List ℕ)). All IsEntry l) (sym (entries-push f.hs n.handed)) (All-push IsEntry es e f.each fits);
        are = f.are ∙ ap (λ (l : List ℕ). flat_map opened es ++ l) rest
            ∙ sym (append_assoc (flat_map opened es) (opened e) t.behind)
            ∙ ap (λ (l : List ℕ). l ++ t.behind) (sym flat)
            ∙ ap (λ (l : List (List ℕ)). flat_map opened l ++ t.behind) (sym (entries-push f.hs n.handed));
        stands = n.stands;
      }

pub front-none : {V S D : Type 0} {v : verifiers.Ghosts V} {g : signers.Ghosts S} {d : disks.Ghosts D} (j : Journaled V S D v g d)
    (begun : PenValue) (bytes : List ℕ) → j.closed ≡ false → j.records ≡ 0 → j.end ≡ 0 → ShowsBook j.replica (empty_book begun) →
    StandsFront j begun bytes
front-none j begun bytes ready count gate shows =
    record {
      hs = [];
      behind = bytes;
      each = λ k d below. absurd (omega arith);
      are = refl;
      stands = record { ready = ready; count = count; gate = gate; replica = record { accepted = tt; book = shows } };
    }

-- ---- where it is bad

pub bad-front : {V S D : Type 0} {v : verifiers.Ghosts V} {g : signers.Ghosts S} {d : disks.Ghosts D} (j : Journaled V S D v g d)
    (begun : PenValue) (bytes : List ℕ) (fault : JournalFault) (f : StandsFront j begun bytes) → IsAt j.end fault →
    (fault ≢ NoMemory → ¬ BeginsClosed (drop j.end bytes)) →
    (fault ≢ NoMemory → ¬ HasNext (own j.replica) (book_after (own j.replica) (empty_book begun) f.hs) j.end (drop j.end bytes)) →
    IsBad (own j.replica) begun bytes fault
bad-front j begun bytes DiskFault f at closed next = tt
bad-front j begun bytes (BadJournal place) f at closed next =
    record {
      hs = f.hs;
      behind = drop j.end bytes;
      accepted = f.stands.replica.accepted;
      are = f.are ∙ ap (λ (l : List ℕ). flat_map opened (entries_of f.hs) ++ l)
          (sym (behind-is (entries_of f.hs) bytes f.behind j.end f.are f.stands.gate));
      gate = at ∙ f.stands.gate;
      near = subst (λ (n : ℕ). n < JOURNAL_LIMIT) (sym at) j.near;
      not_closed = closed (λ e. absurd cc);
      no_next = λ n. next (λ e. absurd cc) (subst (λ (k : ℕ). HasNext (own j.replica)
          (book_after (own j.replica) (empty_book begun) f.hs) k (drop j.end bytes)) at n);
    }
bad-front j begun bytes NoMemory f at closed next = tt

pub not-closed : (entry bytes : List ℕ) → BeginsWith entry bytes → ¬ BeginsClosed bytes
not-closed entry bytes w c = c.closed (ap (λ (l : List ℕ). get_or l 0 0) (sym c.are ∙ w.are))
