-- A line keeps a replay's run, or ends it in a breach.
use Rattle.std.proofs.Common.{◌≡◌, ℕ, List, [], ◌∷◌, Option, Some, None, refl, sym, ap, subst, ◌∙◌}
use Rattle.std.specs.Prelude.{Result, Ok, Err, option_map}
use Rattle.basil_types.specs.Steps.{◌>>=◌}
use Rattle.cluster_run.specs.Events as events
use Rattle.cluster_run.specs.Events.{EventValue}
use Rattle.cluster_run.specs.Safety.{IsEvent}
use Rattle.cluster_run.specs.States.{Setup, start}
use Rattle.cluster_run.specs.declared.fault.WorldFault.{WorldFault}
use Rattle.cluster_run.specs.declared.fault.WorldFault.TheVariants as world
use Rattle.journaled_runs.specs.Journaling.{JournaledState, happens_in}
use Rattle.node_steps.specs.Refusing.{unless_refused}
use Rattle.premise_watch.specs.declared.broken.Broken.{Broken}
use Rattle.schedule_text.specs.Fitting.{Fits}
use Rattle.schedule_text.specs.declared.line.Line.{Line}
use Rattle.line_fields.specs.declared.reason.Reason.{Reason}
use Rattle.schedule_text.specs.declared.line.Line.TheVariants.{Round, Stop}
use Rattle.schedule_replay.proofs.Fitting.{event_fits}
use Rattle.schedule_replay.proofs.Journaled.{event_breaks, event_goes, is_broken, stop_breaks, stop_goes}
use Rattle.schedule_replay.proofs.Running.{Goes, between, goes_on, stays}
use Rattle.schedule_replay.specs.Events.{deliver, deliver_all, event_of, frame_at, given_to, happen, line_does}
use Rattle.schedule_replay.specs.Events.{one_does, road_behind, waiting}
use Rattle.schedule_replay.specs.Laws.{IsReplayed}
use Rattle.schedule_replay.specs.Lines.{answered, line_step, names_after}
use Rattle.schedule_replay.specs.Reasons.{reason_of}
use Rattle.schedule_replay.specs.Replays.{NamesValue, ReplayValue, journaled, led}
use Rattle.schedule_replay.specs.Roads.{Road, behind_one, handed}
use Rattle.report_lines.specs.declared.fault.ReplayFault.{ReplayFault}
use Rattle.report_lines.specs.declared.fault.ReplayFault.TheVariants as fault

-- ---- replays

as_goes : (r : ReplayValue) → IsReplayed r → Goes r.setup (start r.setup) (Ok r.state)
as_goes r i = record { events = i.events; sized = i.sized; ends = i.ends }

led_on : (r : ReplayValue) (x : JournaledState) (road : Road) → IsReplayed r → Goes r.setup r.state (Ok x.state) →
    IsReplayed (led road x r)
led_on r x road i g =
    let whole = goes_on r.setup (start r.setup) r.state (Ok x.state) (as_goes r i) g in
    record { sound = i.sound; events = whole.events; sized = whole.sized; ends = whole.ends }

renamed : (r : ReplayValue) (names : NamesValue) → IsReplayed r → IsReplayed (record r { names = names })
renamed r names i = record { sound = i.sound; events = i.events; sized = i.sized; ends = i.ends }

-- ---- what leads on, and what comes behind it

module _ (r : ReplayValue) (answer : Result JournaledState WorldFault) (road : Road) where
  abbrev Answer : Result ReplayValue WorldFault
  Answer = answer >>= λ x. Ok (led road x r)

  led_keeps : (after : ReplayValue) → ((x : JournaledState) → answer ≡ Ok x → Goes r.setup r.state (Ok x.state)) → IsReplayed r →
      Answer ≡ Ok after → IsReplayed after
  led_keeps after goes i h =
      let b = between answer (λ x. Ok (led road x r)) after h in
      let same : led road b.start r ≡ after = cc in
      subst IsReplayed same (led_on r b.start road i (goes b.start b.first))

  led_breaks : (b : Broken) → (answer ≡ Err (world.Broken b) → Goes r.setup r.state (Err b)) → Answer ≡ Err (world.Broken b) →
      Goes r.setup r.state (Err b)
  led_breaks b breaks h = breaks (is_broken answer (λ x. led road x r) b h)

  led_behind : (after : ReplayValue) (b : Broken) → ((x : JournaledState) → answer ≡ Ok x → Goes r.setup r.state (Ok x.state)) →
      Answer ≡ Ok after → Goes after.setup after.state (Err b) → Goes r.setup r.state (Err b)
  led_behind after b goes h g =
      let x = between answer (λ x. Ok (led road x r)) after h in
      let same : led road x.start r ≡ after = cc in
      goes_on r.setup r.state x.start.state (Err b) (goes x.start x.first)
      (subst (λ (t : ReplayValue). Goes t.setup t.state (Err b)) (sym same) g)

-- ---- a round

abbrev delivered_by : ReplayValue → ℕ → EventValue
delivered_by r message = events.Deliver message (handed r.road (frame_at r.state message))

abbrev delivered : ReplayValue → ℕ → Result JournaledState WorldFault
delivered r message = happens_in r.setup (delivered_by r message) (journaled r)

all_keep : (ms : List ℕ) (r after : ReplayValue) → IsReplayed r → deliver_all ms r ≡ Ok after → IsReplayed after
all_keep [] r after i h = let same : r ≡ after = cc in subst IsReplayed same i
all_keep (m ∷ ms) r after i h =
    let b = between (deliver r m) (deliver_all ms) after h in
    all_keep ms b.start after
    (led_keeps r (delivered r m) (behind_one r.road) b.start (event_goes r.setup (delivered_by r m) (journaled r) tt) i b.first) b.second

all_break : (ms : List ℕ) (r : ReplayValue) (b : Broken) → deliver_all ms r ≡ Err (world.Broken b) → Goes r.setup r.state (Err b)
all_break [] r b h = absurd cc
all_break (m ∷ ms) r b h = by (deliver r m) refl h (λ t e. all_break ms t b e)
  where
    by : (x : Result ReplayValue WorldFault) → deliver r m ≡ x → (x >>= deliver_all ms) ≡ Err (world.Broken b) →
        ((t : ReplayValue) → deliver_all ms t ≡ Err (world.Broken b) → Goes t.setup t.state (Err b)) → Goes r.setup r.state (Err b)
    by (Ok t) e h rest =
        led_behind r (delivered r m) (behind_one r.road) t b (event_goes r.setup (delivered_by r m) (journaled r) tt) e (rest t h)
    by (Err f) e h rest =
        let same : f ≡ world.Broken b = cc in
        led_breaks r (delivered r m) (behind_one r.road) b (event_breaks r.setup (delivered_by r m) (journaled r) b tt)
        (e ∙ ap (λ (x : WorldFault). Err x) same)

-- ---- another line

happen_goes : (s : Setup) (x : JournaledState) (o : Option EventValue) (y : JournaledState) →
    ((e : EventValue) → o ≡ Some e → IsEvent e) → happen s x o ≡ Ok y → Goes s x.state (Ok y.state)
happen_goes s x None y sized h = let same : x ≡ y = cc in subst (λ (z : JournaledState). Goes s x.state (Ok z.state)) same (stays s x.state)
happen_goes s x (Some e) y sized h = event_goes s e x (sized e refl) y h

happen_breaks : (s : Setup) (x : JournaledState) (o : Option EventValue) (b : Broken) →
    ((e : EventValue) → o ≡ Some e → IsEvent e) → happen s x o ≡ Err (world.Broken b) → Goes s x.state (Err b)
happen_breaks s x None b sized h = absurd cc
happen_breaks s x (Some e) b sized h = event_breaks s e x b (sized e refl) h

one_goes_on : (r : ReplayValue) (given : List ℕ) (line : Line) (y : JournaledState) → Fits line → one_does r given line ≡ Ok y →
    Goes r.setup r.state (Ok y.state)
one_goes_on r given (Stop shard replica message write bytes) y f h =
    stop_goes r.setup message shard replica (record { write = write; bytes = bytes }) given (journaled r) y h
one_goes_on r given line y f h =
    happen_goes r.setup (journaled r) (event_of r.names given line) y (λ e k. event_fits r.names given line e f k) h

one_breaks_off : (r : ReplayValue) (given : List ℕ) (line : Line) (b : Broken) → Fits line →
    one_does r given line ≡ Err (world.Broken b) → Goes r.setup r.state (Err b)
one_breaks_off r given (Stop shard replica message write bytes) b f h =
    stop_breaks r.setup message shard replica (record { write = write; bytes = bytes }) given (journaled r) b h
one_breaks_off r given line b f h =
    happen_breaks r.setup (journaled r) (event_of r.names given line) b (λ e k. event_fits r.names given line e f k) h

does_keep : (r : ReplayValue) (line : Line) (after : ReplayValue) → Fits line → IsReplayed r → line_does r line ≡ Ok after →
    IsReplayed after
does_keep r Round after f i h = all_keep (waiting r.state) r after i h
does_keep r line after f i h =
    led_keeps r (one_does r (given_to r line) line) (road_behind line r.road) after
    (λ x e. one_goes_on r (given_to r line) line x f e) i h

pub does_break : (r : ReplayValue) (line : Line) (b : Broken) → Fits line → line_does r line ≡ Err (world.Broken b) →
    Goes r.setup r.state (Err b)
does_break r Round b f h = all_break (waiting r.state) r b h
does_break r line b f h =
    led_breaks r (one_does r (given_to r line) line) (road_behind line r.road) b
    (one_breaks_off r (given_to r line) line b f) h

-- ---- no reason holds

not_refused : (number : ℕ) (o : Option Reason) (a : Result ReplayValue ReplayFault) (r : ReplayValue) →
    unless_refused (option_map (fault.BadInput number) o) a ≡ Ok r → a ≡ Ok r
not_refused number None a r h = h
not_refused number (Some reason) a r h = absurd cc

not_bad : (number : ℕ) (o : Option Reason) (a : Result ReplayValue ReplayFault) (b : Broken) →
    unless_refused (option_map (fault.BadInput number) o) a ≡ Err (fault.Broken b) → a ≡ Err (fault.Broken b)
not_bad number None a b h = h
not_bad number (Some reason) a b h = absurd cc

-- ---- what the events answered

answer_keeps : (line : Line) (number : ℕ) (answer : Result ReplayValue WorldFault) (after : ReplayValue) →
    ((mid : ReplayValue) → answer ≡ Ok mid → IsReplayed mid) → answered line number answer ≡ Ok after → IsReplayed after
answer_keeps line number (Ok mid) after i h =
    let same : record mid { names = names_after line mid.names } ≡ after = cc in
    subst IsReplayed same (renamed mid (names_after line mid.names) (i mid refl))
answer_keeps line number (Err (world.Broken b)) after i h = absurd cc
answer_keeps line number (Err (world.PoolFull messages bytes)) after i h = absurd cc
answer_keeps line number (Err (world.Call f)) after i h = absurd cc
answer_keeps line number (Err (world.Exhausted party)) after i h = absurd cc

answer_breaks : (line : Line) (number : ℕ) (answer : Result ReplayValue WorldFault) (b : Broken) →
    answered line number answer ≡ Err (fault.Broken b) → answer ≡ Err (world.Broken b)
answer_breaks line number (Ok r) b h = absurd cc
answer_breaks line number (Err (world.Broken x)) b h =
    let same : x ≡ b = cc in ap (λ (z : Broken). Err (world.Broken z)) same
answer_breaks line number (Err (world.PoolFull messages bytes)) b h = absurd cc
answer_breaks line number (Err (world.Call f)) b h = absurd cc
answer_breaks line number (Err (world.Exhausted party)) b h = absurd cc

-- ---- lines

pub line_keeps : (r : ReplayValue) (line : Line) (number : ℕ) (after : ReplayValue) → Fits line → IsReplayed r →
    line_step r line number ≡ Ok after → IsReplayed after
line_keeps r line number after f i h =
    answer_keeps line number (line_does r line) after (λ mid e. does_keep r line mid f i e)
    (not_refused number (reason_of r line) (answered line number (line_does r line)) after h)

pub line_breaks : (r : ReplayValue) (line : Line) (number : ℕ) (b : Broken) → line_step r line number ≡ Err (fault.Broken b) →
    line_does r line ≡ Err (world.Broken b)
line_breaks r line number b h =
    answer_breaks line number (line_does r line) b (not_bad number (reason_of r line) (answered line number (line_does r line)) b h)
