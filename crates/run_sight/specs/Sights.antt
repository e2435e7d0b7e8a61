-- What a sight stands for: the part of a run's state that seeing frames changes.
use Rattle.std.specs.Prelude.{◌≡◌, ℕ, ◌<◌, Bool, true, false, List, Result, Ok, Err, length, map, take, ⊤}
use Rattle.basil_types.specs.declared.party.Party.{Party}
use Rattle.basil_types.specs.Transaction.{TransactionValue}
use Rattle.basil_types.specs.Words.{SignedWords, words_of}
use Rattle.frame_views.specs.Values.{MessageValue, PairValue}
use Rattle.keyring.specs.declared.verifier.Verifier as verifiers
use Rattle.premise_watch.specs.declared.broken.WatchFault.{WatchFault}
use Rattle.premise_watch.specs.declared.broken.WatchFault.TheVariants as watches
use Rattle.premise_watch.specs.declared.watch.Watch.{Watch}
use Rattle.premise_watch.specs.Breaches.{WatchValue}
use Rattle.premise_watch.specs.Watches.{Watches}
use Rattle.cluster_run.specs.declared.fault.WorldFault.{WorldFault}
use Rattle.cluster_run.specs.declared.fault.WorldFault.TheVariants as fault
use Rattle.cluster_run.specs.Parts.{noted, see, see_message}
use Rattle.cluster_run.specs.States.{Setup, State}
use Rattle.sight_laws.specs.Seen.{IsSeenFrame}
use Rattle.run_sight.specs.declared.sight.Sight.{Sight}
use Rattle.run_sight.specs.Keeping.{AreOf, Keeps, KeepsFirst}

-- the words that parties signed, the transactions that were seen, and the certified pairs
pub record SightValue : Type 0 where
  pub watch : WatchValue
  pub certified : List PairValue

-- those of a run
abbrev pub sight_of : State → SightValue
sight_of st = record { watch = st.watch; certified = st.certified }

-- to what `undo` goes back: what was seen earlier is that to which the watch goes back, or the watch tells of it as
-- well
abbrev pub GoesTo : (shown : Bool) → Watch → (now : WatchValue) → (back earlier : List TransactionValue) → Type 0
GoesTo true watch now back earlier = earlier ≡ back
GoesTo false watch now back earlier = Watches watch (record now { texts = earlier }) back

-- a sight of a run in which this was signed and seen; `undo` goes back to what was seen earlier
pub record Sees {V : Type 0} (v : verifiers.Ghosts V) (sight : Sight V) (s : Setup) (now earlier : SightValue)
    : Type 0 where
  pub own : AreOf (v.accepted sight.keys) sight.cluster s
  pub faulty : sight.faulty ≡ s.faulty
  pub same : now.watch.faulty ≡ s.faulty
  -- the transactions to which the watch goes back, if the last frame was a message that was new
  pub back : List TransactionValue
  pub watch : Watches sight.watch now.watch back
  pub texts : GoesTo sight.shown sight.watch now.watch back earlier.watch.texts
  pub kept : Keeps sight.certified now.certified
  pub before : KeepsFirst sight.certified sight.before earlier.certified

-- what was seen is what was seen earlier; what was signed stays
abbrev pub taken_back : SightValue → SightValue → SightValue
taken_back now earlier =
    record {
      watch = record now.watch { texts = earlier.watch.texts };
      certified = earlier.certified;
    }

abbrev pub with_noted : Party → List SignedWords → SightValue → SightValue
with_noted party words now = record now { watch = noted party words now.watch }

-- the run ends by this breach; want of memory says nothing of it
abbrev pub Ends : Result State WorldFault → WatchFault → Type 0
Ends result (watches.Broken b) = result ≡ Err (fault.Broken b)
Ends result watches.NoMemory = ⊤

module _ {V : Type 0} (v : verifiers.Ghosts V) (old new : Sight V) where
  -- of what the one is a sight the other is
  abbrev pub KeepsSight : Type 0
  KeepsSight = (s : Setup) (now earlier : SightValue) → Sees v old s now earlier → Sees v new s now earlier

  -- the run goes on from this result, and `undo` would take the frame back
  abbrev pub Follows : (Setup → State → Result State WorldFault) → Type 0
  Follows seen =
      (s : Setup) (st : State) (earlier : SightValue) → Sees v old s (sight_of st) earlier →
      (after : State) × (seen s st ≡ Ok after) × Sees v new s (sight_of after) (sight_of st)

  -- the frame is seen
  abbrev pub SeesFrame : List ℕ → Type 0
  SeesFrame frame = Follows (λ s. see s frame)

  -- the message is seen
  abbrev pub SeesMessage : MessageValue → Type 0
  SeesMessage m = Follows (λ s. see_message s (Ok m))

  -- the frame is seen, where it was seen before if this says so
  abbrev pub Looks : List ℕ → (was_seen : Bool) → Type 0
  Looks frame was_seen =
      (s : Setup) (st : State) (earlier : SightValue) → Sees v old s (sight_of st) earlier →
      (was_seen ≡ true → IsSeenFrame s st.watch st.certified frame) →
      (after : State) × (see s frame st ≡ Ok after) × Sees v new s (sight_of after) (sight_of st)

  -- nothing is seen, and `undo` would change nothing
  abbrev pub SeesNothing : Type 0
  SeesNothing = (s : Setup) (now earlier : SightValue) → Sees v old s now earlier → Sees v new s now now

  -- what was seen last is taken back
  abbrev pub GoesBack : Type 0
  GoesBack =
      (s : Setup) (now earlier : SightValue) → Sees v old s now earlier → Sees v new s (taken_back now earlier) earlier

  -- the party has signed these words too, in their order
  abbrev pub Notes : Party → List (List ℕ) → Type 0
  Notes party words =
      (s : Setup) (now earlier : SightValue) (said : List SignedWords) → map words_of said ≡ words →
      Sees v old s now earlier → Sees v new s (with_noted party said now) earlier

  -- it has signed so many of them, from the first on, but not all
  abbrev pub NotesSome : Party → List (List ℕ) → Type 0
  NotesSome party words = (count : ℕ) × (count < length words) × Notes party (take count words)

module _ {V : Type 0} (v : verifiers.Ghosts V) (sight : Sight V) where
  -- what is seen ends the run
  abbrev pub BreaksBy : (Setup → State → Result State WorldFault) → WatchFault → Type 0
  BreaksBy seen broken =
      (s : Setup) (st : State) (earlier : SightValue) → Sees v sight s (sight_of st) earlier → Ends (seen s st) broken

  -- a frame does
  abbrev pub BreaksByFrame : List ℕ → WatchFault → Type 0
  BreaksByFrame frame = BreaksBy (λ s. see s frame)

  -- a message does
  abbrev pub BreaksByMessage : MessageValue → WatchFault → Type 0
  BreaksByMessage m = BreaksBy (λ s. see_message s (Ok m))

-- a frame from which a run went on is taken back whole
abbrev pub FramesAreTakenBack : Type 0
FramesAreTakenBack =
    (s : Setup) (frame : List ℕ) (st after : State) → see s frame st ≡ Ok after →
    taken_back (sight_of after) (sight_of st) ≡ sight_of st
