-- What a step of a course comes to.
use Rattle.std.proofs.Common.{◌≡◌, ℕ, Bool, false, List, [], ◌∷◌, ◌++◌, Option, Some, None, refl, sym, ap, subst, ◌∙◌}
use Rattle.std.specs.Option.{option_map_or}
use Rattle.std.specs.Prelude.{◌<◌, ◌⊎◌, Result, Ok, Err, is_none, is_some, length, option_map, true}
use Rattle.std.specs.Result.{IsErrAnd}
use Rattle.basil_types.specs.Steps.{◌>>=◌}
use Rattle.cluster_run.specs.Events.{EventValue}
use Rattle.cluster_run.specs.Parts.{Mail}
use Rattle.cluster_run.specs.States.{Posted, State, posted_at}
use Rattle.cluster_run.specs.Telling.{as_mail, mail_at}
use Rattle.cluster_run.specs.declared.fault.WorldFault.{WorldFault}
use Rattle.cluster_run.specs.declared.fault.WorldFault.TheVariants as world
use Rattle.cluster_world.specs.declared.fault.StepFault.{StepFault}
use Rattle.cluster_world.specs.declared.fault.StepFault.TheVariants as step
use Rattle.cluster_world.specs.Shows.{Shows}
use Rattle.journaled_runs.specs.Journaling.{JournaledState, happens_in, stops_in}
use Rattle.journaled_runs.specs.Shown.{ComesTo, KeepsAll}
use Rattle.replay_kit.specs.Made.{kit_value}
use Rattle.run_journals.specs.Journals.{journal_at}
use Rattle.schedule_text.specs.declared.line.Line.{Line}
use Rattle.schedule_text.specs.declared.line.Line.TheVariants.{Round, Deliver, Divert, Stop}
use Rattle.schedule_replay.proofs.RoadLaws.{behind_gift, no_gift}
use Rattle.schedule_replay.specs.Events.{event_of, frame_at, gifts, given_to, happen, line_does, one_does, road_behind, round_of}
use Rattle.schedule_replay.specs.Reasons.{CanStop, lacks_journal}
use Rattle.schedule_replay.specs.Replays.{ReplayValue, along, journaled, led}
use Rattle.schedule_replay.specs.Roads.{Road, road_with}
use Rattle.schedule_replay.specs.Shown.{Does, Goes, HasBegun, HasFilled, IsOfRoad, Stands, halt_of}
use Rattle.schedule_replay.specs.declared.course.Course.{Course}
use Rattle.schedule_replay.specs.declared.fault.Halt.{Halt}
use Rattle.schedule_replay.specs.declared.fault.Halt.TheVariants as halt

-- ---- an event

-- the same replay by another road
pub stands_led : (course : Course) (r : ReplayValue) (x : JournaledState) (here there : Road) → Stands course (led here x r) →
    Stands course (led there x r)
stands_led course r x here there h = record { cluster = h.cluster; names = h.names; shows = h.shows; journals = h.journals }

-- the world and the journals do what the event comes to, and the rest is as before
module _ (r : ReplayValue) (old new : Course) (answer : Result JournaledState WorldFault) (h : Stands old r)
    (cluster : new.cluster ≡ old.cluster) (names : new.names ≡ old.names) (kit : new.world.kit ≡ old.world.kit) where
  now : (x : JournaledState) → Shows r.setup new.world.core x.state → KeepsAll r.setup (kit_value old.world.kit) new.journals x →
      Stands new (led r.road x r)
  now x shows keeps = record {
    cluster = h.cluster ∙ sym cluster;
    names = h.names ∙ sym names;
    shows = shows;
    journals = subst (λ k. KeepsAll r.setup (kit_value k) new.journals x) (sym kit) keeps;
  }

  pub stepped : (x : Result (Unit {0}) StepFault) →
      ComesTo r.setup (kit_value old.world.kit) (journaled r) answer new.world.core new.journals x → Goes answer r new x
  stepped (Ok done) comes = (comes.0, comes.1, now comes.0 comes.2 comes.3)
  stepped (Err (step.World (world.Broken b))) comes = comes
  stepped (Err (step.World (world.PoolFull messages bytes))) comes = (comes.0, now (journaled r) comes.1 comes.2)
  stepped (Err (step.World (world.Call f))) comes = (comes.0, now (journaled r) comes.1 comes.2)
  stepped (Err (step.World (world.Exhausted party))) comes = (comes.0, now (journaled r) comes.1 comes.2)
  stepped (Err step.NoMemory) comes = tt

pub has_one : {A : Type 0} (o : Option A) → is_none o ≡ false → is_some o ≡ true
has_one None h = absurd cc
has_one (Some x) h = refl

-- ---- the bytes of a message

abbrev frame_told : Option Mail → List ℕ
frame_told told = option_map_or (λ (m : Mail). m.frame) told []

frame_posted : (p : Option Posted) → frame_told (option_map as_mail p) ≡ option_map_or (λ (p : Posted). p.frame) p []
frame_posted None = refl
frame_posted (Some p) = refl

pub frame_is : (told : Option Mail) (st : State) (message : ℕ) → told ≡ mail_at st message → frame_told told ≡ frame_at st message
frame_is told st message e = ap frame_told e ∙ frame_posted (posted_at st message)

-- ---- what is handed over

pub stands_along : (course : Course) (r : ReplayValue) (road : Road) → Stands course r → Stands course (along road r)
stands_along course r road h = record { cluster = h.cluster; names = h.names; shows = h.shows; journals = h.journals }

module _ (carried : Bool) (line : Line) (given : List ℕ) where
  pub behind_gifts : (later : List (List ℕ)) →
      road_behind line (road_with carried (gifts carried line given ++ later)) ≡ road_with carried later
  behind_gifts later = by line
    where
      by : (line : Line) → road_behind line (road_with carried (gifts carried line given ++ later)) ≡ road_with carried later
      by (Deliver message) = behind_gift carried given later
      by (Divert message to) = behind_gift carried given later
      by (Stop shard replica message write bytes) = behind_gift carried given later
      by line = refl

  pub no_gifts : carried ≡ false → gifts carried line given ≡ []
  no_gifts h = by line
    where
      by : (line : Line) → gifts carried line given ≡ []
      by (Deliver message) = no_gift carried given h
      by (Divert message to) = no_gift carried given h
      by (Stop shard replica message write bytes) = no_gift carried given h
      by line = refl

-- ---- a call that did nothing

abbrev none_begun : (messages : List ℕ) (r : ReplayValue) (course : Course) → Stands course r → HasBegun messages r course
none_begun messages r course h = record {
  done = [];
  left = messages;
  of_these = refl;
  reached = r;
  comes = refl;
  stands = h;
}

-- where nothing is delivered one after another
none_filled : (messages : List ℕ) (r : ReplayValue) (course : Course) (f : WorldFault) → messages ≡ [] → Stands course r →
    HasFilled messages r course f
none_filled messages r course f none h = record {
  begun = none_begun messages r course h;
  refused = λ message behind is. let no : [] ≡ message ∷ behind = sym none ∙ is in absurd cc;
}

pub not_begun : (messages : List ℕ) (answer : Result ReplayValue WorldFault) (r : ReplayValue) (course : Course) (road : Road) (x : Halt) →
    IsOfRoad x → Stands course r → r.road ≡ road → Does messages answer r course (Err x) road
not_begun messages answer r course road (halt.World f) of h same = absurd of
not_begun messages answer r course road halt.Link of h same = record { begun = none_begun messages r course h; goes = same }
not_begun messages answer r course road halt.NoMemory of h same = tt

-- `?` hands it on
pub handed_on : (messages : List ℕ) (answer : Result ReplayValue WorldFault) (r : ReplayValue) (course : Course) (road : Road)
    (result : Result (Unit {0}) Halt) (x : Halt) → IsErrAnd result (λ y. y ≡ x) → Does messages answer r course (Err x) road →
    Does messages answer r course result road
handed_on messages answer r course road (Ok done) x e d = absurd e
handed_on messages answer r course road (Err y) x e d = subst (λ z. Does messages answer r course (Err z) road) (sym e) d

pub ends_not_begun : (messages : List ℕ) (answer : Result ReplayValue WorldFault) (r : ReplayValue) (course : Course) (road : Road)
    (result : Result (Unit {0}) Halt) (x : Halt) → IsErrAnd result (λ y. y ≡ x) → IsOfRoad x → Stands course r → r.road ≡ road →
    Does messages answer r course result road
ends_not_begun messages answer r course road result x e of h same =
    handed_on messages answer r course road result x e (not_begun messages answer r course road x of h same)

-- ---- an event of a line

abbrev Halted : Result (Unit {0}) StepFault → Result (Unit {0}) Halt
Halted (Ok done) = Ok done
Halted (Err e) = Err (halt_of e)

module _ (r : ReplayValue) (course : Course) (answer : Result JournaledState WorldFault) (road left : Road) where
  abbrev Answer : Result ReplayValue WorldFault
  Answer = answer >>= λ x. Ok (led road x r)

  fails : (f : WorldFault) → answer ≡ Err f → Answer ≡ Err f
  fails f e = ap (λ (a : Result JournaledState WorldFault). a >>= λ x. Ok (led road x r)) e

  pub event_done : (done : Unit {0}) → road ≡ left → Goes answer r course (Ok done) → Does [] Answer r course (Ok tt) left
  event_done done same goes = (
    led road goes.0 r,
    ap (λ (a : Result JournaledState WorldFault). a >>= λ x. Ok (led road x r)) goes.1,
    stands_led course r goes.0 r.road road goes.2,
    same,
  )

  pub event_refused : (messages : List ℕ) → messages ≡ [] → (x : StepFault) → Goes answer r course (Err x) →
      Does messages Answer r course (Err (halt_of x)) left
  event_refused messages none (step.World (world.Broken b)) goes = fails (world.Broken b) goes
  event_refused messages none (step.World (world.PoolFull count bytes)) goes =
      (fails (world.PoolFull count bytes) goes.0, none_filled messages r course (world.PoolFull count bytes) none goes.1)
  event_refused messages none (step.World (world.Call f)) goes = (fails (world.Call f) goes.0, goes.1)
  event_refused messages none (step.World (world.Exhausted party)) goes = (fails (world.Exhausted party) goes.0, goes.1)
  event_refused messages none step.NoMemory goes = tt

  pub event_fails : (x : StepFault) (result : Result (Unit {0}) Halt) → IsErrAnd result (λ y. y ≡ halt_of x) →
      Goes answer r course (Err x) → Does [] Answer r course result left
  event_fails x (Ok done) h goes = absurd h
  event_fails x (Err y) h goes =
      subst (λ z. Does [] Answer r course (Err z) left) (sym h) (event_refused [] refl x goes)

-- ---- another line than a round

pub rest_does : (r : ReplayValue) (line : Line) → (line ≡ Round → ⊥) →
    line_does r line ≡ (one_does r (given_to r line) line >>= λ x. Ok (led (road_behind line r.road) x r))
rest_does r Round h = absurd (h refl)
rest_does r line h = refl

no_round : (r : ReplayValue) (line : Line) → (line ≡ Round → ⊥) → round_of r line ≡ []
no_round r Round h = absurd (h refl)
no_round r line h = refl

module _ (q : ReplayValue) (line : Line) (course : Course) (given : List ℕ) (left : Road) (single : line ≡ Round → ⊥)
    (is : given ≡ given_to q line) (behind : road_behind line q.road ≡ left) where
  abbrev After : Result JournaledState WorldFault → Result ReplayValue WorldFault
  After answer = answer >>= λ x. Ok (led (road_behind line q.road) x q)

  turn : (result : Result (Unit {0}) Halt) → Does (round_of q line) (After (one_does q given line)) q course result left →
      Does (round_of q line) (line_does q line) q course result left
  turn result d =
      subst (λ a. Does (round_of q line) a q course result left)
      (ap (λ g. After (one_does q g line)) is ∙ sym (rest_does q line single)) d

  pub line_done : Goes (one_does q given line) q course (Ok tt) → Does (round_of q line) (line_does q line) q course (Ok tt) left
  line_done goes = turn (Ok tt) (event_done q course (one_does q given line) (road_behind line q.road) left tt behind goes)

  pub line_failed : (x : StepFault) (result : Result (Unit {0}) Halt) → IsErrAnd result (λ y. y ≡ halt_of x) →
      Goes (one_does q given line) q course (Err x) → Does (round_of q line) (line_does q line) q course result left
  line_failed x (Ok done) h goes = absurd h
  line_failed x (Err y) h goes =
      subst (λ z. Does (round_of q line) (line_does q line) q course (Err z) left) (sym h)
      (turn (Err (halt_of x))
      (event_refused q course (one_does q given line) (road_behind line q.road) left (round_of q line) (no_round q line single) x goes))

-- ---- what a line but a round comes to

-- it stops no disk
abbrev pub IsNoStop : Line → Type 0
IsNoStop line = (shard replica message write : ℕ) (bytes : List ℕ) → line ≡ Stop shard replica message write bytes → ⊥

no_stop : (r : ReplayValue) (given : List ℕ) (line : Line) → IsNoStop line →
    one_does r given line ≡ happen r.setup (journaled r) (event_of r.names given line)
no_stop r given (Stop shard replica message write bytes) h = absurd (h shard replica message write bytes refl)
no_stop r given line h = refl

module _ (r : ReplayValue) (course : Course) (given : List ℕ) (line : Line) (names : r.names ≡ course.names) (rest : IsNoStop line)
    (o : Option EventValue) (made : o ≡ event_of course.names given line) where
  by_event : happen r.setup (journaled r) o ≡ one_does r given line
  by_event =
      ap (happen r.setup (journaled r)) (made ∙ ap (λ n. event_of n given line) (sym names)) ∙ sym (no_stop r given line rest)

  pub one_happened : (new : Course) (e : EventValue) (result : Result (Unit {0}) StepFault) → o ≡ Some e →
      Goes (happens_in r.setup e (journaled r)) r new result → Goes (one_does r given line) r new result
  one_happened new e result is goes =
      subst (λ a. Goes a r new result) (ap (happen r.setup (journaled r)) (sym is) ∙ by_event) goes

  pub one_idle : (new : Course) → o ≡ None → Stands new r → Goes (one_does r given line) r new (Ok tt)
  one_idle new is stands = (journaled r, sym by_event ∙ ap (happen r.setup (journaled r)) is, stands)

-- ---- a stop

module _ (shard replica message write : ℕ) (bytes : List ℕ) (line : Line) (is : line ≡ Stop shard replica message write bytes) where
  pub stops_so : CanStop line → ((write ≡ 1) ⊎ (write ≡ 2)) × (0 < length bytes)
  stops_so can = subst CanStop is can

  pub has_journal : (r : ReplayValue) → lacks_journal r.journals line ≡ false → is_none (journal_at r.journals shard replica) ≡ false
  has_journal r has = subst (λ l. lacks_journal r.journals l ≡ false) is has

  pub one_stops : (r : ReplayValue) (new : Course) (given copy : List ℕ) (result : Result (Unit {0}) StepFault) → copy ≡ bytes →
      Goes (stops_in r.setup message shard replica (record { write = write; bytes = copy }) given (journaled r)) r new result →
      Goes (one_does r given line) r new result
  one_stops r new given copy result same goes =
      subst (λ l. Goes (one_does r given l) r new result) (sym is)
      (subst (λ b. Goes (stops_in r.setup message shard replica (record { write = write; bytes = b }) given (journaled r)) r new result)
      same goes)
