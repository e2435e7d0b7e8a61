-- How far a course came.
use Rattle.std.proofs.Common.{◌≡◌, ℕ, ◌+◌, ◌≤◌, ◌<◌, List, [], ◌∷◌, ◌++◌, length, take, drop, drop-cons}
use Rattle.std.proofs.Common.{get_or, suc, Bool, Some, None, refl, add-one, ap, subst, sym, ◌∙◌}
use Rattle.std.specs.Prelude.{Result, Ok, Err, option_map}
use Rattle.std.proofs.Math.Seq.{take-suc}
use Rattle.std.proofs.lemmas.List.{take_all, take-append-drop}
use Rattle.basil_types.specs.Steps.{◌>>=◌}
use Rattle.cluster_run.specs.Events as events
use Rattle.journaled_runs.specs.Journaling.{JournaledState, happens_in}
use Rattle.cluster_run.specs.declared.fault.WorldFault.{WorldFault}
use Rattle.cluster_run.specs.declared.fault.WorldFault.TheVariants as world
use Rattle.node_steps.specs.Refusing.{unless_refused}
use Rattle.schedule_text.specs.declared.line.Line.{Line}
use Rattle.line_fields.specs.declared.reason.Reason.{Reason}
use Rattle.schedule_replay.proofs.Deliveries.{IsTaken, delivered_in}
use Rattle.schedule_replay.specs.Events.{deliver, deliver_all, frame_at, line_does, round_of, waiting}
use Rattle.schedule_replay.specs.Lines.{answered, line_step, names_after}
use Rattle.schedule_replay.specs.Reasons.{reason_of}
use Rattle.schedule_replay.proofs.RoadLaws.{along_own, two_gifts}
use Rattle.schedule_replay.specs.Replays.{ReplayValue, along, journaled, led}
use Rattle.schedule_replay.specs.Roads.{Road, behind_one, handed, road_with}
use Rattle.schedule_replay.specs.Shown.{Did, Does, HasBegun, HasStopped, Stands, fault_by}
use Rattle.schedule_replay.specs.declared.course.Course.{Course}
use Rattle.schedule_replay.specs.declared.fault.Halt.{Halt}
use Rattle.schedule_replay.specs.declared.fault.Halt.TheVariants as halt
use Rattle.report_lines.specs.declared.fault.ReplayFault.TheVariants.{BadInput}

-- a course shows what a replay comes to when these messages are delivered, with this road left
pub record Reached (r : ReplayValue) (course : Course) (done : List ℕ) (road : Road) : Type 0 where
  pub now : ReplayValue
  pub comes : deliver_all done r ≡ Ok now
  pub stands : Stands course now
  pub goes : now.road ≡ road

-- ---- lists of deliveries

all_append : (xs ys : List ℕ) (r : ReplayValue) → deliver_all (xs ++ ys) r ≡ (deliver_all xs r >>= deliver_all ys)
all_append [] ys r = refl
all_append (x ∷ xs) ys r = by (deliver r x) (λ q. all_append xs ys q)
  where
    by : (a : Result ReplayValue WorldFault) →
        ((q : ReplayValue) → deliver_all (xs ++ ys) q ≡ (deliver_all xs q >>= deliver_all ys)) →
        (a >>= deliver_all (xs ++ ys)) ≡ ((a >>= deliver_all xs) >>= deliver_all ys)
    by (Ok q) rest = rest q
    by (Err e) rest = refl

only_one : (r : ReplayValue) (m : ℕ) → deliver_all (m ∷ []) r ≡ deliver r m
only_one r m = by (deliver r m)
  where
    by : (a : Result ReplayValue WorldFault) → (a >>= deliver_all []) ≡ a
    by (Ok q) = refl
    by (Err e) = refl

one_more : (r : ReplayValue) (done : List ℕ) (m : ℕ) (q : ReplayValue) → deliver_all done r ≡ Ok q →
    deliver_all (done ++ m ∷ []) r ≡ deliver q m
one_more r done m q h = all_append done (m ∷ []) r ∙ (ap (λ x. x >>= deliver_all (m ∷ [])) h ∙ only_one q m)

all_of : (r : ReplayValue) (done left : List ℕ) (m : ℕ) (q : ReplayValue) → deliver_all done r ≡ Ok q →
    deliver_all (done ++ m ∷ left) r ≡ (deliver q m >>= deliver_all left)
all_of r done left m q h = all_append done (m ∷ left) r ∙ ap (λ x. x >>= deliver_all (m ∷ left)) h

-- ---- one more delivery

pub reached_one : (r : ReplayValue) (mid new : Course) (done : List ℕ) (m : ℕ) (here there : Road) (a : Reached r mid done here) →
    Does [] (deliver a.now m) a.now new (Ok tt) there → Reached r new (done ++ m ∷ []) there
reached_one r mid new done m here there a does = record {
  now = does.0;
  comes = one_more r done m a.now a.comes ∙ does.1;
  stands = does.2;
  goes = does.3;
}

-- a delivery is refused as a party's matter by no world
led_handed : (a : Result JournaledState WorldFault) (f : JournaledState → ReplayValue) (w : WorldFault) → IsTaken a →
    (a >>= λ x. Ok (f x)) ≡ Err w → IsTaken {A = JournaledState} (Err w)
led_handed (Ok x) f w h e = absurd cc
led_handed (Err z) f w h e = let same : z ≡ w = cc in subst (λ y. IsTaken {A = JournaledState} (Err y)) same h

not_refused : (q : ReplayValue) (m : ℕ) (w : WorldFault) → deliver q m ≡ Err w → IsTaken {A = JournaledState} (Err w)
not_refused q m w e =
    led_handed (happens_in q.setup (events.Deliver m (handed q.road (frame_at q.state m))) (journaled q))
    (λ x. led (behind_one q.road) x q) w (delivered_in q.setup m (handed q.road (frame_at q.state m)) (journaled q)) e

-- where no message was delivered, all is as before
nothing_begun : (r : ReplayValue) (course : Course) (h : HasBegun [] r course) → Stands course r × (h.reached ≡ r)
nothing_begun r course h = by h.done h.of_these h.comes
  where
    by : (done : List ℕ) → [] ≡ done ++ h.left → deliver_all done r ≡ Ok h.reached → Stands course r × (h.reached ≡ r)
    by [] e c = let same : h.reached ≡ r = cc in (subst (Stands course) same h.stands, same)
    by (m ∷ ms) e c = absurd cc

nothing_done : (r : ReplayValue) (course : Course) (road : Road) → HasStopped [] r course road → Stands course r × (r.road ≡ road)
nothing_done r course road h =
    let none = nothing_begun r course h.begun in (none.0, subst (λ q. q.road ≡ road) none.1 h.goes)

pub stopped_at : (r : ReplayValue) (mid new : Course) (done left : List ℕ) (m : ℕ) (here there : Road) (a : Reached r mid done here)
    (x : Halt) → waiting r.state ≡ done ++ m ∷ left → Does [] (deliver a.now m) a.now new (Err x) there →
    Does (waiting r.state) (deliver_all (waiting r.state) r) r new (Err x) there
stopped_at r mid new done left m here there a x w does = by x does
  where
    fails : (f : WorldFault) → deliver a.now m ≡ Err f → deliver_all (waiting r.state) r ≡ Err f
    fails f e = ap (λ ms. deliver_all ms r) w ∙ (all_of r done left m a.now a.comes ∙ ap (λ x. x >>= deliver_all left) e)

    so_far : Stands new a.now → HasBegun (waiting r.state) r new
    so_far h = record { done = done; left = m ∷ left; of_these = w; reached = a.now; comes = a.comes; stands = h }

    by : (x : Halt) → Does [] (deliver a.now m) a.now new (Err x) there →
        Does (waiting r.state) (deliver_all (waiting r.state) r) r new (Err x) there
    by (halt.World (world.Broken b)) does = fails (world.Broken b) does
    by (halt.World (world.PoolFull messages bytes)) does = (
      fails (world.PoolFull messages bytes) does.0,
      record {
        begun = so_far (nothing_begun a.now new does.1.begun).0;
        refused = λ message behind is.
            let first : m ≡ message = cc in subst (λ k. deliver a.now k ≡ Err (world.PoolFull messages bytes)) first does.0;
      },
    )
    by (halt.World (world.Call f)) does = absurd (not_refused a.now m (world.Call f) does.0)
    by (halt.World (world.Exhausted party)) does = absurd (not_refused a.now m (world.Exhausted party) does.0)
    by halt.Link does =
        let none = nothing_done a.now new there does in record { begun = so_far none.0; goes = none.1 }
    by halt.NoMemory does = tt

-- ---- the message at a place

module _ (r : ReplayValue) (ms : List ℕ) (i : ℕ) (below : i < length ms) (all : waiting r.state ≡ ms) where
  parted : waiting r.state ≡ take i ms ++ get_or ms i 0 ∷ drop (suc i) ms
  parted = all ∙ (sym (take-append-drop i ms) ∙ ap (λ xs. take i ms ++ xs) (drop-cons ms i 0 below))

  pub reached_on : (mid new : Course) (here there : Road) (a : Reached r mid (take i ms) here) →
      Does [] (deliver a.now (get_or ms i 0)) a.now new (Ok tt) there → Reached r new (take (i + 1) ms) there
  reached_on mid new here there a does =
      rw add-one
      (subst (λ xs. Reached r new xs there) (sym (take-suc ms i 0 below))
      (reached_one r mid new (take i ms) (get_or ms i 0) here there a does))

  pub stopped_on : (mid new : Course) (here there : Road) (a : Reached r mid (take i ms) here) (x : Halt) →
      Does [] (deliver a.now (get_or ms i 0)) a.now new (Err x) there →
      Does (waiting r.state) (deliver_all (waiting r.state) r) r new (Err x) there
  stopped_on mid new here there a x does =
      stopped_at r mid new (take i ms) (drop (suc i) ms) (get_or ms i 0) here there a x parted does

pub reached_all : (r : ReplayValue) (course : Course) (ms : List ℕ) (i : ℕ) (road : Road) → length ms ≤ i → waiting r.state ≡ ms →
    Reached r course (take i ms) road → Does (waiting r.state) (deliver_all (waiting r.state) r) r course (Ok tt) road
reached_all r course ms i road past all a =
    (a.now, ap (λ xs. deliver_all xs r) (all ∙ sym (take_all i ms past)) ∙ a.comes, a.stands, a.goes)

-- ---- the whole road of a round

-- what was delivered so far, by every road that begins with what links gave so far
abbrev pub Sofar : (start mid : Course) (ms : List ℕ) (carried : Bool) → List (List ℕ) → Type 0
Sofar start mid ms carried gave = (r : ReplayValue) (later : List (List ℕ)) → Stands start r →
    Reached (along (road_with carried (gave ++ later)) r) mid ms (road_with carried later)

-- a delivery comes to what it should
abbrev pub Delivers : (mid new : Course) (message : ℕ) (carried : Bool) → Result (Unit {0}) Halt → List (List ℕ) → Type 0
Delivers mid new message carried result gave = (r : ReplayValue) (later : List (List ℕ)) → Stands mid r →
    Does [] (deliver (along (road_with carried (gave ++ later)) r) message) (along (road_with carried (gave ++ later)) r) new result
    (road_with carried later)

module _ (start mid new : Course) (ms : List ℕ) (i : ℕ) (carried : Bool) (below : i < length ms)
    (all : (r : ReplayValue) → Stands start r → waiting r.state ≡ ms) (g h : List (List ℕ))
    (so_far : Sofar start mid (take i ms) carried g) where
  module _ (r : ReplayValue) (later : List (List ℕ)) (stands : Stands start r) where
    abbrev whole : ReplayValue
    whole = along (road_with carried ((g ++ h) ++ later)) r

    -- how far it came, on that road
    reached : Reached whole mid (take i ms) (road_with carried (h ++ later))
    reached = subst (λ x. Reached (along x r) mid (take i ms) (road_with carried (h ++ later))) (sym (two_gifts carried g h later))
        (so_far r (h ++ later) stands)

    -- and the next delivery from there
    next : (result : Result (Unit {0}) Halt) → Delivers mid new (get_or ms i 0) carried result h →
        Does [] (deliver reached.now (get_or ms i 0)) reached.now new result (road_with carried later)
    next result d =
        subst (λ q. Does [] (deliver q (get_or ms i 0)) q new result (road_with carried later))
        (along_own reached.now (road_with carried (h ++ later)) reached.goes) (d reached.now later reached.stands)

  pub sofar_on : Delivers mid new (get_or ms i 0) carried (Ok tt) h → Sofar start new (take (i + 1) ms) carried (g ++ h)
  sofar_on d r later stands =
      reached_on (whole r later stands) ms i below (all r stands) mid new (road_with carried (h ++ later)) (road_with carried later)
      (reached r later stands) (next r later stands (Ok tt) d)

  pub sofar_stops : (x : Halt) → Delivers mid new (get_or ms i 0) carried (Err x) h → (r : ReplayValue) (later : List (List ℕ)) →
      Stands start r →
      Does (waiting r.state) (deliver_all (waiting r.state) (along (road_with carried ((g ++ h) ++ later)) r))
      (along (road_with carried ((g ++ h) ++ later)) r) new (Err x) (road_with carried later)
  sofar_stops x d r later stands =
      stopped_on (whole r later stands) ms i below (all r stands) mid new (road_with carried (h ++ later)) (road_with carried later)
      (reached r later stands) x (next r later stands (Err x) d)

-- ---- a line that is done

pub line_done : (r : ReplayValue) (line : Line) (number : ℕ) (mid new : Course) (road : Road) → reason_of r line ≡ None →
    Does (round_of r line) (line_does r line) r mid (Ok tt) road → new.names ≡ names_after line mid.names → new.world ≡ mid.world →
    new.journals ≡ mid.journals → new.cluster ≡ mid.cluster → Did (round_of r line) (line_step r line number) r new (Ok tt) road
line_done r line number mid new road none does names world journals cluster = let after = does.0 in (
  record after { names = names_after line after.names },
  ap (λ o. unless_refused (option_map (BadInput number) o) (answered line number (line_does r line))) none
      ∙ ap (answered line number) does.1,
  record {
    cluster = does.2.cluster ∙ sym cluster;
    names = ap (names_after line) does.2.names ∙ sym names;
    shows = rw world does.2.shows;
    journals = rw world (rw journals does.2.journals);
  },
  does.3,
)

-- a line that a reason refuses
pub line_refused : (r : ReplayValue) (line : Line) (number : ℕ) (reason : Reason) (course : Course) (road : Road) →
    reason_of r line ≡ Some reason →
    Stands course r → Did (round_of r line) (line_step r line number) r course (Err (BadInput number reason)) road
line_refused r line number reason course road is stands =
    (ap (λ o. unless_refused (option_map (BadInput number) o) (answered line number (line_does r line))) is, stands)

-- a line whose events halt
pub line_halted : (r : ReplayValue) (line : Line) (number : ℕ) (course : Course) (road : Road) (x : Halt) → reason_of r line ≡ None →
    Does (round_of r line) (line_does r line) r course (Err x) road →
    Did (round_of r line) (line_step r line number) r course (Err (fault_by number x)) road
line_halted r line number course road x none does = by x does
  where
    answers : (f : WorldFault) → line_does r line ≡ Err f → line_step r line number ≡ answered line number (Err f)
    answers f e =
        ap (λ o. unless_refused (option_map (BadInput number) o) (answered line number (line_does r line))) none
        ∙ ap (answered line number) e

    by : (x : Halt) → Does (round_of r line) (line_does r line) r course (Err x) road →
        Did (round_of r line) (line_step r line number) r course (Err (fault_by number x)) road
    by (halt.World (world.Broken b)) does = answers (world.Broken b) does
    by (halt.World (world.PoolFull messages bytes)) does = (answers (world.PoolFull messages bytes) does.0, does.1)
    by (halt.World (world.Call f)) does = (answers (world.Call f) does.0, does.1)
    by (halt.World (world.Exhausted party)) does = (answers (world.Exhausted party) does.0, does.1)
    by halt.Link does = does
    by halt.NoMemory does = tt
