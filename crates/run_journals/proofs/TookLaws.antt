-- What a journal comes to of a frame.
use Rattle.std.proofs.Common.{◌≡◌, ◌≢◌, ℕ, [], ◌∷◌, ◌++◌, Bool, true, false, cond, length, sym, ap, subst, ◌∙◌, refl}
use Rattle.std.proofs.Common.{Option, None, Result, Ok, Err, arith}
use Rattle.std.proofs.lemmas.Bool.{le-ltb, lt-ltb}
use Rattle.std.specs.Prelude.{IfOk, IsErr, IsOk}
use Rattle.basil_types.specs.declared.memory.NoMemory.{NoMemory as Wanting}
use Rattle.keyring.specs.declared.verifier.Verifier as verifiers
use Rattle.keyring.specs.declared.signer.Signer as signers
use Rattle.journal_disk.specs.declared.disk.Disk as disks
use Rattle.journal_disk.specs.declared.disk.Stop.{Stop}
use Rattle.journal_disk.specs.Foreseen.{Foreseen}
use Rattle.node_journal.specs.declared.fault.StepFault.{StepFault}
use Rattle.node_journal.specs.declared.fault.StepFault.TheVariants.{Closed, Refused, Full, DiskFault, NoMemory}
use Rattle.node_journal.specs.declared.journaled.Journaled.{Journaled}
use Rattle.node_journal.specs.declared.limits.TheConstants.{JOURNAL_BYTES}
use Rattle.node_journal.specs.Journals.{IsTooLong, journal_bytes}
use Rattle.node_journal.specs.Replicas.{Reflects}
use Rattle.node_journal.specs.Steps.{IsFaulted, answer_after}
use Rattle.node_steps.specs.Pens.{PenValue}
use Rattle.replica_core.specs.declared.refusal.Refusal.{Refusal}
use Rattle.replica_core.specs.Replicas.{Done, ReplicaSelf}
use Rattle.replica_core.specs.Shown.{own}
use Rattle.replica_laws.specs.Steps.{Handed}
use Rattle.run_journals.specs.declared.journal.RunJournal.{RunJournal}
use Rattle.run_journals.specs.declared.took.Took.{Took}
use Rattle.run_journals.specs.declared.took.Took.TheVariants as tooks
use Rattle.run_journals.specs.Journals.{JournalValue, after_stop, after_take, is_full_for, took_of}
use Rattle.run_journals.specs.Kept.{IsGoing, IsJournal}

-- ---- what it comes to, by what its replica answers

abbrev by_room : JournalValue → Bool → Took
by_room x full = cond full (tooks.Full (length x.taken) (journal_bytes x.taken)) tooks.Taken

fits : (x : JournalValue) (h : Handed) → ¬ IsTooLong (x.taken ++ h ∷ []) → is_full_for x h ≡ false
fits x h short = le-ltb JOURNAL_BYTES (journal_bytes (x.taken ++ h ∷ [])) (grind (arith, short))

pub took-full : (x : JournalValue) (h : Handed) (a : Result Done Refusal) → IsOk a → IsTooLong (x.taken ++ h ∷ []) →
    tooks.Full (length x.taken) (journal_bytes x.taken) ≡ took_of x h a
took-full x h (Ok done) ok long = sym (ap (by_room x) (lt-ltb JOURNAL_BYTES (journal_bytes (x.taken ++ h ∷ [])) long))
took-full x h (Err refusal) ok long = absurd cc

pub took-full-by : (x : JournalValue) (h : Handed) (a : Result Done Refusal) (fault : StepFault) (records bytes : ℕ) →
    records ≡ length x.taken → bytes ≡ journal_bytes x.taken → fault ≡ Full → IsFaulted x.taken h fault a →
    tooks.Full records bytes ≡ took_of x h a
took-full-by x h a fault records bytes r b e f =
    let t = subst (λ (z : StepFault). IsFaulted x.taken h z a) e f in
    ap (λ (n : ℕ). tooks.Full n bytes) r ∙ ap (tooks.Full (length x.taken)) b ∙ took-full x h a t.0 t.1

-- a disk's failure comes where the record would have been written
pub took-cut : (x : JournalValue) (h : Handed) (a : Result Done Refusal) → IsFaulted x.taken h DiskFault a →
    tooks.Taken ≡ took_of x h a
took-cut x h (Ok done) f = sym (ap (by_room x) (fits x h f.1))
took-cut x h (Err refusal) f =
    let ok = f.0 in
    absurd cc

-- ---- a journal that is full

pub full-still : (x : JournalValue) (h : Handed) (a : Result Done Refusal) → is_full_for x h ≡ true →
    after_take x h (took_of x h a) ≡ x
full-still x h (Ok done) e = ap (λ (b : Bool). after_take x h (by_room x b)) e
full-still x h (Err refusal) e = refl

-- ---- the journal after it

-- what a step leaves that isn't taken
pub going-still : {V S D : Type 0} {v : verifiers.Ghosts V} {g : signers.Ghosts S} {d : disks.Ghosts D} (old new : Journaled V S D v g d)
    (me : ReplicaSelf) (begun : PenValue) (awaits : Option Foreseen) (x : JournalValue) → IsGoing me begun old awaits x →
    own new.replica ≡ own old.replica → d.stops new.disk ≡ d.stops old.disk → Reflects new begun x.taken →
    IsGoing me begun new awaits x
going-still old new me begun awaits x h o s r = record { own = o ∙ h.own; reflects = r; stops = s ∙ h.stops }

pub faulted-own : {V S D : Type 0} {v : verifiers.Ghosts V} {g : signers.Ghosts S} {d : disks.Ghosts D} (j : Journaled V S D v g d)
    (me : ReplicaSelf) (begun : PenValue) (awaits : Option Foreseen) (x : JournalValue) (h : Handed) (fault : StepFault) →
    IsGoing me begun j awaits x → IsFaulted x.taken h fault (answer_after (own j.replica) begun x.taken h) →
    IsFaulted x.taken h fault (answer_after me begun x.taken h)
faulted-own j me begun awaits x h fault k f =
    subst (λ (m : ReplicaSelf). IsFaulted x.taken h fault (answer_after m begun x.taken h)) k.own f

-- ---- what isn't taken

-- a frame that comes to something met no failure of the disk
pub calm : (P : Took → Type 0) (r : Result Took Wanting) (fault : StepFault) → (fault ≡ DiskFault → IsErr r) →
    (fault ≢ DiskFault → IfOk r P) → IfOk r P
calm P (Err wanting) fault disk f = tt
calm P (Ok took) fault disk f =
    f
    (λ e.
    let t = disk e in
    absurd cc)

-- ---- the same replica's

pub record Stays (x y : JournalValue) : Type 0 where
  pub shard : y.shard ≡ x.shard
  pub index : y.index ≡ x.index

pub take-stays : (h : Handed) (x : JournalValue) (took : Took) → Stays x (after_take x h took)
take-stays h x tooks.Taken = record { shard = refl; index = refl }
take-stays h x tooks.Refused = record { shard = refl; index = refl }
take-stays h x (tooks.Full records bytes) = record { shard = refl; index = refl }

pub stop-stays : (h : Handed) (stop : Stop) (x : JournalValue) (took : Took) → Stays x (after_stop x h stop took)
stop-stays h stop x tooks.Taken = record { shard = refl; index = refl }
stop-stays h stop x tooks.Refused = record { shard = refl; index = refl }
stop-stays h stop x (tooks.Full records bytes) = record { shard = refl; index = refl }

-- ---- as before

pub untaken-take : (h : Handed) (x : JournalValue) (took : Took) → took ≢ tooks.Taken → after_take x h took ≡ x
untaken-take h x tooks.Taken not = absurd (not refl)
untaken-take h x tooks.Refused not = refl
untaken-take h x (tooks.Full records bytes) not = refl

untaken-stop : (h : Handed) (stop : Stop) (x : JournalValue) (took : Took) → took ≢ tooks.Taken → after_stop x h stop took ≡ x
untaken-stop h stop x tooks.Taken not = absurd (not refl)
untaken-stop h stop x tooks.Refused not = refl
untaken-stop h stop x (tooks.Full records bytes) not = refl

pub still-taking : (P : JournalValue → Type 0) (x : JournalValue) (h : Handed) (r : Result Took Wanting) (fault : StepFault) →
    (fault ≡ DiskFault → IsErr r) → IfOk r (λ took. took ≢ tooks.Taken) → (fault ≢ DiskFault → P x) →
    IfOk r (λ took. P (after_take x h took))
still-taking P x h (Err wanting) fault disk not p = tt
still-taking P x h (Ok took) fault disk not p =
    subst P (sym (untaken-take h x took not))
    (p
    (λ e.
    let t = disk e in
    absurd cc))

-- of a journal that keeps its place
pub journal-taking : {V S : Type 0} {v : verifiers.Ghosts V} {g : signers.Ghosts S} (now : RunJournal V S v g) (me : ReplicaSelf)
    (begun : PenValue) (x : JournalValue) (h : Handed) (r : Result Took Wanting) → now.shard ≡ x.shard → now.index ≡ x.index →
    IfOk r (λ took. IsGoing me begun now.journaled None (after_take x h took)) →
    IfOk r (λ took. IsJournal me begun now (after_take x h took))
journal-taking now me begun x h (Err wanting) s i k = tt
journal-taking now me begun x h (Ok took) s i k =
    let stays = take-stays h x took in
    record { shard = s ∙ sym stays.shard; index = i ∙ sym stays.index; going = k }

pub still-stopping : (P : JournalValue → Type 0) (x : JournalValue) (h : Handed) (stop : Stop) (r : Result Took Wanting) →
    IfOk r (λ took. took ≢ tooks.Taken) → P x → IfOk r (λ took. P (after_stop x h stop took))
still-stopping P x h stop (Err wanting) not p = tt
still-stopping P x h stop (Ok took) not p = subst P (sym (untaken-stop h stop x took not)) p

-- ---- whether the disk failed

pub either : (P : Took → Type 0) (r : Result Took Wanting) (fault : StepFault) → (fault ≢ DiskFault → IfOk r P) →
    (fault ≡ DiskFault → IfOk r P) → IfOk r P
either P r Closed calm failed = calm (λ e. absurd cc)
either P r (Refused refusal) calm failed = calm (λ e. absurd cc)
either P r Full calm failed = calm (λ e. absurd cc)
either P r DiskFault calm failed = failed refl
either P r NoMemory calm failed = calm (λ e. absurd cc)

pub taken-cut : (A : Type 0) (x : JournalValue) (h : Handed) (a : Result Done Refusal) (r : Result Took Wanting) (fault : StepFault) →
    fault ≡ DiskFault → IfOk r (λ took. (took ≡ tooks.Taken) × A) → IsFaulted x.taken h fault a → IfOk r (λ took. took ≡ took_of x h a)
taken-cut A x h a (Err wanting) fault e came f = tt
taken-cut A x h a (Ok took) fault e came f =
    came.0 ∙ took-cut x h a (subst (λ (z : StepFault). IsFaulted x.taken h z a) e f)

pub left-by : (A : Type 0) (P : JournalValue → Type 0) (x : JournalValue) (h : Handed) (stop : Stop) (r : Result Took Wanting) →
    IfOk r (λ took. (took ≡ tooks.Taken) × A) → (A → P (after_stop x h stop tooks.Taken)) →
    IfOk r (λ took. P (after_stop x h stop took))
left-by A P x h stop (Err wanting) came p = tt
left-by A P x h stop (Ok took) came p =
    subst (λ (t : Took). P (after_stop x h stop t)) (sym came.0) (p came.1)
