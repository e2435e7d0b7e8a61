-- A replica that writes down takes one frame more.
use Rattle.std.proofs.Common.{◌≡◌, ◌≢◌, ℕ, ◌+◌, ◌^◌, ◌<◌, List, [], ◌∷◌, ◌++◌, false, Option, Some, Result, Ok, Err}
use Rattle.std.proofs.Common.{inr, sym, ap, subst, ◌∙◌, length-append, arith}
use Rattle.std.specs.Prelude.{IfErr, IsOk, map}
use Rattle.std.proofs.lemmas.List.{append-nil, map-append}
use Rattle.basil_types.specs.Words.{SignedWords, words_of}
use Rattle.basil_types.specs.declared.outbox.Envelope.{Envelope}
use Rattle.basil_types.specs.declared.outbox.Outbox.{Outbox}
use Rattle.journal_disk.specs.declared.disk.Disk as disks
use Rattle.journal_disk.specs.Disk.{BothTold, DiskState}
use Rattle.journal_disk.specs.Foreseen.{Foreseen, OnStopped, StopState}
use Rattle.journal_records.specs.declared.limits.TheConstants.{JOURNAL_LIMIT}
use Rattle.journal_records.specs.Journal.{EndsAt, Holds, last_gate}
use Rattle.journal_records.specs.Journal as records
use Rattle.journal_records.specs.Stopping.{after_stop}
use Rattle.keyring.specs.declared.verifier.Verifier as verifiers
use Rattle.keyring.specs.declared.signer.Signer as signers
use Rattle.node_steps.specs.Pens.{PenValue, pen_value}
use Rattle.replica_core.specs.declared.parts.Parts.{Parts}
use Rattle.replica_core.specs.declared.plan.Plan.{Plan}
use Rattle.replica_core.specs.declared.refusal.Refusal.{Refusal}
use Rattle.replica_core.specs.declared.replica.Replica.{Replica}
use Rattle.replica_core.specs.declared.seat.Seat.{Seat}
use Rattle.replica_core.specs.Leads.{kept_next}
use Rattle.replica_core.specs.Nodes.{Performs, Shows, ShowsSame, perform_plan}
use Rattle.replica_core.specs.Replicas.{ReplicaSelf, BookValue, Done, empty_book}
use Rattle.replica_core.specs.Seats.{self_at}
use Rattle.replica_core.specs.Telling.{begun, told_of}
use Rattle.replica_core.specs.Shown.{ShowsBook, own}
use Rattle.replica_laws.specs.Steps.{Handed, book_after, left_by, signed_in}
use Rattle.node_journal.specs.declared.fault.StepFault.{StepFault}
use Rattle.node_journal.specs.declared.fault.StepFault.TheVariants.{Closed, Refused, Full, DiskFault, NoMemory}
use Rattle.node_journal.specs.declared.limits.TheConstants.{JOURNAL_BYTES}
use Rattle.node_journal.specs.declared.journaled.Journaled.{Journaled}
use Rattle.node_journal.specs.Entries.{entry_of}
use Rattle.node_journal.specs.Journals.{AcceptsAll, IsTooLong, Keeps, LosesNone, entries_of}
use Rattle.node_journal.specs.Replicas.{HasTaken, Reflects}
use Rattle.node_journal.specs.Steps.{GainsWords, IsFaulted, IsTaken, IsWithin, MayHaveWritten, answer_after, words_signed}
use Rattle.node_journal.proofs.KeepingLaws.{entries-push, stopped-keeps, unwritten-loses, written-loses}
use Rattle.node_journal.proofs.TakenLaws.{Answered, accepts-push, answered-by, book_after-push, is-ok, shown-same, words-kept}

-- ---- the halves of a step

-- what a plan leaves
pub record Plans {V S : Type 0} {v : verifiers.Ghosts V} {g : signers.Ghosts S} (old new : Replica V S v g) : Type 0 where
  pub same : ShowsSame old.parts new.parts
  pub keys : new.keys ≡ old.keys
  pub pen : new.pen ≡ old.pen
  pub seat : new.seat ≡ old.seat

-- what a commit does
pub record Commits {V S : Type 0} {v : verifiers.Ghosts V} {g : signers.Ghosts S} (old new : Replica V S v g) (plan : Plan)
    (out : Outbox) : Type 0 where
  pub done : (book : BookValue) → ShowsBook old book → Performs new.parts (pen_value (g.spent new.pen) (g.left_of new.pen)) out
      (perform_plan (g.fixed old.pen) (kept_next old.parts.leading) (begun book) plan)
  pub keys : new.keys ≡ old.keys
  pub seat : new.seat ≡ old.seat
  pub fixed : g.fixed new.pen ≡ g.fixed old.pen

shows-planned : {V S : Type 0} {v : verifiers.Ghosts V} {g : signers.Ghosts S} (old new : Replica V S v g) (book : BookValue) →
    Plans old new → ShowsBook old book → ShowsBook new book
shows-planned {S = S} {g = g} old new book p s =
    subst (λ (pen : S). Shows new.parts (pen_value (g.spent pen) (g.left_of pen)) book) (sym p.pen)
    (shown-same old.parts new.parts (pen_value (g.spent old.pen) (g.left_of old.pen)) book p.same s)

-- what was planned and carried out is what is answered
pub commit-answers : {V S : Type 0} {v : verifiers.Ghosts V} {g : signers.Ghosts S} (first planned kept last : Replica V S v g)
    (plan : Plan) (out : Outbox) (book : BookValue) (a : Result Done Refusal) → Plans first planned →
    kept ≡ planned → Commits kept last plan out →
    told_of a ≡ Ok (perform_plan (g.fixed first.pen) (kept_next planned.parts.leading) (begun book) plan) → ShowsBook first book →
    Answered a last.parts (pen_value (g.spent last.pen) (g.left_of last.pen)) out
commit-answers {V} {S} {v} {g} first planned kept last plan out book a p same c e s =
    let pen = pen_value (g.spent last.pen) (g.left_of last.pen) in
    let d = subst (λ (r : Replica V S v g). Commits r last plan out) same c in
    let did = d.done book (shows-planned first planned book p s) in
    answered-by a (perform_plan (g.fixed first.pen) (kept_next planned.parts.leading) (begun book) plan) last.parts pen out e
    (subst (λ (q : S). Performs last.parts pen out (perform_plan (g.fixed q) (kept_next planned.parts.leading) (begun book) plan))
    p.pen did)

own-by : {V S : Type 0} {v : verifiers.Ghosts V} {g : signers.Ghosts S} (old new : Replica V S v g) → new.keys ≡ old.keys →
    new.seat ≡ old.seat → g.fixed new.pen ≡ g.fixed old.pen → own new ≡ own old
own-by {V} {S} {v} {g} old new k s f =
    ap (λ (seat : Seat). self_at seat (v.accepted new.keys) (g.fixed new.pen)) s
    ∙ ap (λ (keys : V). self_at old.seat (v.accepted keys) (g.fixed new.pen)) k
    ∙ ap (self_at old.seat (v.accepted old.keys)) f

pub commit-own : {V S : Type 0} {v : verifiers.Ghosts V} {g : signers.Ghosts S} (first planned kept last : Replica V S v g) (plan : Plan)
    (out : Outbox) → Plans first planned → kept ≡ planned → Commits kept last plan out → own last ≡ own first
commit-own {V} {S} {v} {g} first planned kept last plan out p same c =
    own-by kept last c.keys c.seat c.fixed ∙ ap (λ (r : Replica V S v g). own r) same
    ∙ own-by first planned p.keys p.seat (ap g.fixed p.pen)

-- ---- one frame more

pub taken-more : {V S : Type 0} {v : verifiers.Ghosts V} {g : signers.Ghosts S} (old new : Replica V S v g) (begun : PenValue)
    (hs : List Handed) (h : Handed) (done : Done) → own new ≡ own old → HasTaken old begun hs → h.now < 2 ^ 64 →
    answer_after (own old) begun hs h ≡ Ok done → ShowsBook new done.book → HasTaken new begun (hs ++ h ∷ [])
taken-more old new begun hs h done same t small e shows =
    let me : ReplicaSelf = own old in
    let before : BookValue = book_after me (empty_book begun) hs in
    let all = accepts-push me (empty_book begun) hs h t.accepted (record { moment = small; answered = is-ok _ done e }) in
    let book : book_after me (empty_book begun) (hs ++ h ∷ []) ≡ done.book =
    book_after-push me (empty_book begun) hs h ∙ ap (λ (a : Result Done Refusal). (left_by before a).book) e in
    record {
      accepted = subst (λ (m : ReplicaSelf). AcceptsAll m (empty_book begun) (hs ++ h ∷ [])) (sym same) all;
      book = subst (λ (m : ReplicaSelf). ShowsBook new (book_after m (empty_book begun) (hs ++ h ∷ []))) (sym same)
          (subst (ShowsBook new) (sym book) shows);
    }

-- a replica that shows what it showed took what it took
pub taken-still : {V S : Type 0} {v : verifiers.Ghosts V} {g : signers.Ghosts S} (old new : Replica V S v g) (begun : PenValue)
    (hs : List Handed) → own new ≡ own old → HasTaken old begun hs →
    ShowsBook new (book_after (own old) (empty_book begun) hs) → HasTaken new begun hs
taken-still old new begun hs same t shows =
    record {
      accepted = subst (λ (m : ReplicaSelf). AcceptsAll m (empty_book begun) hs) (sym same) t.accepted;
      book = subst (λ (m : ReplicaSelf). ShowsBook new (book_after m (empty_book begun) hs)) (sym same) shows;
    }

-- ---- where records stand

pub ends-more : (hs : List Handed) (h : Handed) (end : ℕ) (t : Option DiskState) →
    EndsAt (entries_of hs ++ entry_of h ∷ []) end t → EndsAt (entries_of (hs ++ h ∷ [])) end t
ends-more hs h end t at = subst (λ (es : List (List ℕ)). EndsAt es end t) (sym (entries-push hs h)) at

pub reflects-more : {V S D : Type 0} {v : verifiers.Ghosts V} {g : signers.Ghosts S} {d : disks.Ghosts D}
    (old new : Journaled V S D v g d) (begun : PenValue) (hs : List Handed) (h : Handed) → Reflects old begun hs →
    new.closed ≡ false → new.records ≡ old.records + 1 →
    EndsAt (entries_of hs ++ entry_of h ∷ []) new.end (d.told new.disk) → HasTaken new.replica begun (hs ++ h ∷ []) →
    Reflects new begun (hs ++ h ∷ [])
reflects-more {d = d} old new begun hs h r ready count at taken =
    record {
      ready = ready;
      count = omega (arith, count, r.count, length-append hs (h ∷ []));
      disk = ends-more hs h new.end (d.told new.disk) at;
      replica = taken;
    }

pub reflects-still : {V S D : Type 0} {v : verifiers.Ghosts V} {g : signers.Ghosts S} {d : disks.Ghosts D}
    (old new : Journaled V S D v g d) (begun : PenValue) (hs : List Handed) → Reflects old begun hs →
    new.closed ≡ false → new.records ≡ old.records → new.end ≡ old.end → d.told new.disk ≡ d.told old.disk →
    HasTaken new.replica begun hs → Reflects new begun hs
reflects-still {d = d} old new begun hs r ready count end told taken =
    record {
      ready = ready;
      count = count ∙ r.count;
      disk = subst (λ (e : ℕ). EndsAt (entries_of hs) e (d.told new.disk)) (sym end)
          (subst (EndsAt (entries_of hs) old.end) (sym told) r.disk);
      replica = taken;
    }

pub more-accepted : {V S D : Type 0} {v : verifiers.Ghosts V} {g : signers.Ghosts S} {d : disks.Ghosts D} (j : Journaled V S D v g d)
    (begun : PenValue) (hs : List Handed) (h : Handed) → Reflects j begun hs → h.now < 2 ^ 64 →
    IsOk (answer_after (own j.replica) begun hs h) → AcceptsAll (own j.replica) (empty_book begun) (hs ++ h ∷ [])
more-accepted j begun hs h r small ok =
    accepts-push (own j.replica) (empty_book begun) hs h r.replica.accepted (record { moment = small; answered = ok })

-- ---- what is said of it

-- an outbox gained what another holds
pub record Adds (old new more : Outbox) : Type 0 where
  pub messages : new.messages.items ≡ old.messages.items ++ more.messages.items
  pub signed : new.signed.items ≡ old.signed.items ++ more.signed.items

pub adds-behind : (old mid new more : Outbox) → mid.messages.items ≡ old.messages.items → mid.signed.items ≡ old.signed.items →
    Adds mid new more → Adds old new more
adds-behind old mid new more m s a =
    record {
      messages = a.messages ∙ ap (λ (es : List Envelope). es ++ more.messages.items) m;
      signed = a.signed ∙ ap (λ (ws : List (List ℕ)). ws ++ more.signed.items) s;
    }

pub is_taken-ok : (hs : List Handed) (h : Handed) (old new more : Outbox) (a : Result Done Refusal) (last : Parts) (pen : PenValue) →
    Answered a last pen more → Adds old new more → ¬ IsTooLong (hs ++ h ∷ []) → IsTaken hs h old new (Ok tt) a
is_taken-ok hs h old new more a last pen w adds short =
    subst (λ (b : Result Done Refusal). IsTaken hs h old new (Ok tt) b) (sym w.is) (
      record {
        messages = adds.messages ∙ ap (λ (es : List Envelope). old.messages.items ++ es) w.messages;
        signed = adds.signed ∙ ap (λ (ws : List (List ℕ)). old.signed.items ++ ws) w.signed;
      },
      short,
    )

pub signed-more : (me : ReplicaSelf) (begun : PenValue) (hs : List Handed) (h : Handed) (old new more : Outbox) (last : Parts)
    (pen : PenValue) → Answered (answer_after me begun hs h) last pen more → Adds old new more → GainsWords me begun hs h old new
signed-more me begun hs h old new more last pen w adds =
    let before : BookValue = book_after me (empty_book begun) hs in
    let one : signed_in me before (h ∷ []) ≡ w.done.signed =
    append-nil _ ∙ ap (λ (a : Result Done Refusal). (left_by before a).signed) w.is in
    record {
      added = more.signed.items;
      gained = adds.signed;
      signed =
          ap (map words_of) (words-kept me (empty_book begun) hs (h ∷ []))
          ∙ map-append words_of (signed_in me (empty_book begun) hs) (signed_in me before (h ∷ []))
          ∙ ap (λ (ws : List SignedWords). words_signed me begun hs ++ map words_of ws) one
          ∙ ap (λ (ws : List (List ℕ)). words_signed me begun hs ++ ws) (sym w.signed);
    }

pub faulted-by : (hs : List Handed) (h : Handed) (fault : StepFault) (a : Result Done Refusal) → IsOk a →
    IsWithin (last_gate (entries_of hs ++ entry_of h ∷ []) + 1) (Err fault) → IsFaulted hs h fault a
faulted-by hs h Closed a ok w = w
faulted-by hs h (Refused refusal) a ok w = absurd w
faulted-by hs h Full a ok w =
    (ok, subst (λ (es : List (List ℕ)). JOURNAL_BYTES < last_gate es + 1) (sym (entries-push hs h)) w)
faulted-by hs h DiskFault a ok w =
    (ok, λ t. w (subst (λ (es : List (List ℕ)). JOURNAL_BYTES < last_gate es + 1) (entries-push hs h) t))
faulted-by hs h NoMemory a ok w = tt

pub short-by : (hs : List Handed) (h : Handed) → IsWithin (last_gate (entries_of hs ++ entry_of h ∷ []) + 1) (Ok tt) →
    ¬ IsTooLong (hs ++ h ∷ [])
short-by hs h w t =
    w (subst (λ (es : List (List ℕ)). JOURNAL_BYTES < last_gate es + 1) (entries-push hs h) t)

-- ---- what stops leave

near-of : {V S D : Type 0} {v : verifiers.Ghosts V} {g : signers.Ghosts S} {d : disks.Ghosts D} (j : Journaled V S D v g d)
    (begun : PenValue) (hs : List Handed) → Reflects j begun hs → last_gate (entries_of hs) < JOURNAL_LIMIT
near-of j begun hs r = subst (λ (n : ℕ). n < JOURNAL_LIMIT) r.disk.gate j.near

pub still-loses : {V S D : Type 0} {v : verifiers.Ghosts V} {g : signers.Ghosts S} {d : disks.Ghosts D} (j : Journaled V S D v g d)
    (begun : PenValue) (hs : List Handed) (h : Handed) (told : Option DiskState) → Reflects j begun hs → told ≡ d.told j.disk →
    BothTold (λ old new. LosesNone (own j.replica) begun hs h old.past new) (d.told j.disk) told
still-loses {d = d} j begun hs h told r e =
    unwritten-loses (own j.replica) begun hs (near-of j begun hs r) r.replica.accepted h j.end (d.told j.disk) told r.disk e

near-short : (n : ℕ) → ¬ (JOURNAL_BYTES < n + 1) → n < JOURNAL_LIMIT
near-short n short = grind arith

pub step-loses : {V S D : Type 0} {v : verifiers.Ghosts V} {g : signers.Ghosts S} {d : disks.Ghosts D} (j : Journaled V S D v g d)
    (begun : PenValue) (hs : List Handed) (h : Handed) (told : Option DiskState) (result : Result (Unit {0}) StepFault) →
    Reflects j begun hs → AcceptsAll (own j.replica) (empty_book begun) (hs ++ h ∷ []) →
    IsWithin (last_gate (entries_of hs ++ entry_of h ∷ []) + 1) result →
    IfErr result (λ fault. fault ≢ DiskFault → told ≡ d.told j.disk) →
    (MayHaveWritten result →
    BothTold (λ old new. records.LosesNone (entries_of hs) (entry_of h) old.past new) (d.told j.disk) told) →
    BothTold (λ old new. LosesNone (own j.replica) begun hs h old.past new) (d.told j.disk) told
step-loses {d = d} j begun hs h told (Ok x) r all w same loses =
    written-loses (own j.replica) begun hs (near-of j begun hs r) r.replica.accepted h
    (subst (λ (es : List (List ℕ)). last_gate es < JOURNAL_LIMIT) (sym (entries-push hs h)) (near-short _ w)) all
    (d.told j.disk) told (loses tt)
step-loses {d = d} j begun hs h told (Err DiskFault) r all w same loses =
    written-loses (own j.replica) begun hs (near-of j begun hs r) r.replica.accepted h
    (subst (λ (es : List (List ℕ)). last_gate es < JOURNAL_LIMIT) (sym (entries-push hs h)) (near-short _ w)) all
    (d.told j.disk) told (loses tt)
step-loses j begun hs h told (Err Closed) r all w same loses = absurd w
step-loses j begun hs h told (Err (Refused refusal)) r all w same loses = absurd w
step-loses j begun hs h told (Err Full) r all w same loses = still-loses j begun hs h told r (same (λ e. absurd cc))
step-loses j begun hs h told (Err NoMemory) r all w same loses = still-loses j begun hs h told r (same (λ e. absurd cc))

-- ---- what a stop leaves that was foreseen

pub untouched : (Holding : List ℕ → Type 0) (stop : Foreseen) (s0 s1 : StopState) (told : Option DiskState) →
    s0.awaits ≡ Some stop → s1 ≡ s0 → OnStopped Holding stop.stop s0 s1 told
untouched Holding stop s0 s1 told e same =
    inr (record { left = stop.left; stops = same ∙ ap (λ (a : Option Foreseen). record s0 { awaits = a }) e })

pub step-stops : {V S D : Type 0} {v : verifiers.Ghosts V} {g : signers.Ghosts S} {d : disks.Ghosts D} (j : Journaled V S D v g d)
    (begun : PenValue) (hs : List Handed) (h : Handed) (stop : Foreseen) (s1 : StopState) (told : Option DiskState)
    (fault : StepFault) → Reflects j begun hs → AcceptsAll (own j.replica) (empty_book begun) (hs ++ h ∷ []) →
    (d.stops j.disk).awaits ≡ Some stop → IsWithin (last_gate (entries_of hs ++ entry_of h ∷ []) + 1) (Err fault) →
    (fault ≢ DiskFault → s1 ≡ d.stops j.disk) →
    OnStopped (Holds (after_stop stop (entries_of hs) (entry_of h))) stop.stop (d.stops j.disk) s1 told →
    OnStopped (Keeps (own j.replica) begun (after_stop stop hs h)) stop.stop (d.stops j.disk) s1 told
step-stops {d = d} j begun hs h stop s1 told DiskFault r all e w same holds =
    stopped-keeps (own j.replica) begun hs (near-of j begun hs r) r.replica.accepted h
    (subst (λ (es : List (List ℕ)). last_gate es < JOURNAL_LIMIT) (sym (entries-push hs h)) (near-short _ w)) all stop
    (d.stops j.disk) s1 told holds
step-stops j begun hs h stop s1 told Closed r all e w same holds = absurd w
step-stops j begun hs h stop s1 told (Refused refusal) r all e w same holds = absurd w
step-stops {d = d} j begun hs h stop s1 told Full r all e w same holds =
    untouched _ stop (d.stops j.disk) s1 told e (same (λ e. absurd cc))
step-stops {d = d} j begun hs h stop s1 told NoMemory r all e w same holds =
    untouched _ stop (d.stops j.disk) s1 told e (same (λ e. absurd cc))
