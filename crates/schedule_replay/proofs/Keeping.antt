-- The replicas that keep a journal are the same ones behind every step.
use Rattle.std.proofs.Common.{◌≡◌, ◌∙◌, ℕ, List, [], ◌∷◌, Option, Some, None, refl, sym, ap, subst}
use Rattle.std.proofs.lemmas.Option.{same_Some}
use Rattle.std.specs.Prelude.{Result, Ok, Err, is_some, option_and_then, option_map}
use Rattle.basil_types.specs.Steps.{◌>>=◌}
use Rattle.basil_types.specs.declared.party.Party.{Party}
use Rattle.cluster_run.specs.Events as events
use Rattle.cluster_run.specs.Events.{EventValue}
use Rattle.cluster_run.specs.declared.fault.WorldFault.{WorldFault}
use Rattle.cluster_run.specs.declared.fault.WorldFault.TheVariants as world
use Rattle.journal_disk.specs.Memory.{MemDiskState}
use Rattle.journaled_runs.specs.Journaling.{JournaledState, happens_in}
use Rattle.journaled_runs.specs.Owners.{OwnersAreCorrect, OwnersOutlastStops, OwnersStay, SameOwners, keeps_journal}
use Rattle.node_steps.specs.Refusing.{unless_refused}
use Rattle.run_journals.specs.Journals.{JournalValue, journal_at}
use Rattle.run_journals.specs.Kept.{ShowsDisk}
use Rattle.schedule_text.specs.declared.line.Line.{Line}
use Rattle.schedule_text.specs.declared.line.Line.TheVariants.{Round, Stop}
use Rattle.schedule_replay.specs.Events.{deliver, deliver_all, event_of, frame_at, given_to, happen, line_does, one_does}
use Rattle.schedule_replay.specs.Events.{road_behind, waiting}
use Rattle.schedule_replay.specs.Leading.{Delivers, Does, IsLed, Step, done_of, step_of, steps_of}
use Rattle.schedule_replay.specs.Lines.{answered, line_step}
use Rattle.schedule_replay.specs.Reasons.{reason_of}
use Rattle.schedule_replay.specs.Replays.{Opening, ReplayValue, first_replay, journaled, led, setup_of}
use Rattle.schedule_replay.specs.Roads.{Road, behind_one, handed}
use Rattle.report_lines.specs.declared.fault.ReplayFault.{ReplayFault}
use Rattle.report_lines.specs.declared.fault.ReplayFault.TheVariants.{BadInput}

-- ---- what a step leaves

abbrev journals_or : List JournalValue → {E : Type 0} → Result ReplayValue E → List JournalValue
journals_or js (Ok r) = r.journals
journals_or js (Err e) = js

same_left : {E : Type 0} (js : List JournalValue) (q r : ReplayValue) → ◌≡◌ {A = Result ReplayValue E} (Ok q) (Ok r) →
    SameOwners js q.journals → SameOwners js r.journals
same_left js q r e same = subst (SameOwners js) (ap (journals_or js) e) same

abbrev state_or : JournaledState → Result JournaledState WorldFault → JournaledState
state_or x (Ok y) = y
state_or x (Err e) = x

same_state : (js : List JournalValue) (x y : JournaledState) → ◌≡◌ {A = Result JournaledState WorldFault} (Ok x) (Ok y) →
    SameOwners js x.journals → SameOwners js y.journals
same_state js x y e same = subst (λ (z : JournaledState). SameOwners js z.journals) (ap (state_or x) e) same

same_then : (a b c : List JournalValue) → SameOwners a b → SameOwners b c → SameOwners a c
same_then a b c first next shard index = next shard index ∙ first shard index

-- ---- each step

module _ (stay : OwnersStay) (outlast : OwnersOutlastStops) where
  led_keeps : (r s : ReplayValue) (road : Road) (a : Result JournaledState WorldFault) →
      ((x : JournaledState) → a ≡ Ok x → SameOwners r.journals x.journals) → (a >>= λ x. Ok (led road x r)) ≡ Ok s →
      SameOwners r.journals s.journals
  led_keeps r s road (Ok x) keeps h = same_left r.journals (led road x r) s h (keeps x refl)
  led_keeps r s road (Err e) keeps h = absurd cc

  deliver_keeps : (r s : ReplayValue) (message : ℕ) → deliver r message ≡ Ok s → SameOwners r.journals s.journals
  deliver_keeps r s message h =
      let e = events.Deliver message (handed r.road (frame_at r.state message)) in
      led_keeps r s (behind_one r.road) (happens_in r.setup e (journaled r)) (λ x is. stay r.setup e (journaled r) x is) h

  all_keep : (messages : List ℕ) (r s : ReplayValue) → deliver_all messages r ≡ Ok s → SameOwners r.journals s.journals
  all_keep [] r s h = same_left r.journals r s h (λ shard index. refl)
  all_keep (m ∷ messages) r s h = by (deliver r m) refl h (λ q. all_keep messages q s)
    where
      by : (a : Result ReplayValue WorldFault) → deliver r m ≡ a → (a >>= deliver_all messages) ≡ Ok s →
          ((q : ReplayValue) → deliver_all messages q ≡ Ok s → SameOwners q.journals s.journals) → SameOwners r.journals s.journals
      by (Ok q) e k later = same_then r.journals q.journals s.journals (deliver_keeps r q m e) (later q k)
      by (Err e) is k later = absurd cc

  event_keeps : (r : ReplayValue) (o : Option EventValue) (x : JournaledState) → happen r.setup (journaled r) o ≡ Ok x →
      SameOwners r.journals x.journals
  event_keeps r None x h = same_state r.journals (journaled r) x h (λ shard index. refl)
  event_keeps r (Some e) x h = stay r.setup e (journaled r) x h

  one_keeps : (r : ReplayValue) (given : List ℕ) (line : Line) (x : JournaledState) → one_does r given line ≡ Ok x →
      SameOwners r.journals x.journals
  one_keeps r given (Stop shard replica message write bytes) x h =
      outlast r.setup message shard replica (record { write = write; bytes = bytes }) given (journaled r) x h
  one_keeps r given line x h = event_keeps r (event_of r.names given line) x h

  does_keep : (r : ReplayValue) (line : Line) (s : ReplayValue) → line_does r line ≡ Ok s → SameOwners r.journals s.journals
  does_keep r Round s h = all_keep (waiting r.state) r s h
  does_keep r line s h =
      led_keeps r s (road_behind line r.road) (one_does r (given_to r line) line) (λ x is. one_keeps r (given_to r line) line x is) h

  line_keeps : (r s : ReplayValue) (line : Line) (number : ℕ) → line_step r line number ≡ Ok s → SameOwners r.journals s.journals
  line_keeps r s line number h = by (option_map (BadInput number) (reason_of r line)) (line_does r line) refl h
    where
      by : (o : Option ReplayFault) (a : Result ReplayValue WorldFault) → line_does r line ≡ a →
          unless_refused o (answered line number a) ≡ Ok s → SameOwners r.journals s.journals
      by (Some fault) a is k = absurd cc
      by None (Ok q) is k = same_left r.journals _ s k (does_keep r line q is)
      by None (Err (world.Broken b)) is k = absurd cc
      by None (Err (world.PoolFull messages bytes)) is k = absurd cc
      by None (Err (world.Call f)) is k = absurd cc
      by None (Err (world.Exhausted party)) is k = absurd cc

  step_keeps : (r s : ReplayValue) (step : Step) → step_of r step ≡ Some s → SameOwners r.journals s.journals
  step_keeps r s (Does line number) h = by (line_step r line number) refl h
    where
      by : (a : Result ReplayValue ReplayFault) → line_step r line number ≡ a → done_of a ≡ Some s → SameOwners r.journals s.journals
      by (Ok q) is k = line_keeps r s line number (is ∙ ap Ok (same_Some q s k))
      by (Err e) is k = absurd cc
  step_keeps r s (Delivers messages) h = by (deliver_all messages r) refl h
    where
      by : (a : Result ReplayValue WorldFault) → deliver_all messages r ≡ a → done_of a ≡ Some s → SameOwners r.journals s.journals
      by (Ok q) is k = all_keep messages r s (is ∙ ap Ok (same_Some q s k))
      by (Err e) is k = absurd cc

  steps_keep : (steps : List Step) (r s : ReplayValue) → steps_of steps r ≡ Some s → SameOwners r.journals s.journals
  steps_keep [] r s h = λ shard index. ap (λ (q : ReplayValue). is_some (journal_at q.journals shard index)) (sym (same_Some r s h))
  steps_keep (step ∷ steps) r s h = by (step_of r step) refl h (λ q. steps_keep steps q s)
    where
      by : (o : Option ReplayValue) → step_of r step ≡ o → option_and_then (steps_of steps) o ≡ Some s →
          ((q : ReplayValue) → steps_of steps q ≡ Some s → SameOwners q.journals s.journals) → SameOwners r.journals s.journals
      by (Some q) is k later = same_then r.journals q.journals s.journals (step_keeps r q step is) (later q k)
      by None is k later = absurd cc

-- ---- the disk of a replica

pub disk_told : (disk : Option MemDiskState) (journal : Option JournalValue) → ShowsDisk disk journal → is_some disk ≡ is_some journal
disk_told None None h = refl
disk_told None (Some x) h = absurd h
disk_told (Some d) None h = absurd h
disk_told (Some d) (Some x) h = refl

pub keeps_so : OwnersAreCorrect → OwnersStay → OwnersOutlastStops → (o : Opening) (faulty : List Party) (r : ReplayValue) →
    IsLed o faulty r → (shard index : ℕ) →
    is_some (journal_at r.journals shard index) ≡ keeps_journal (setup_of o faulty) o.journal shard index
keeps_so correct stay outlast o faulty r h shard index =
    steps_keep stay outlast h.steps (first_replay o faulty h.road) r h.leads shard index
    ∙ correct (setup_of o faulty) o.journal shard index

pub seen_or_none : {A B : Type 0} (f : A → B) (o : Option A) → is_some o ≡ is_some (option_map f o)
seen_or_none f None = refl
seen_or_none f (Some x) = refl
