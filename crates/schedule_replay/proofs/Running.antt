-- What events come to, one after another.
use Rattle.std.proofs.Common.{◌≡◌, List, [], ◌∷◌, ◌++◌, refl, ap, ◌∙◌}
use Rattle.std.specs.Prelude.{Result, Ok, Err}
use Rattle.basil_types.specs.Steps.{◌>>=◌}
use Rattle.cluster_run.specs.Events.{EventValue, happens, kept, run}
use Rattle.cluster_run.specs.Safety.{IsEvent, AreEvents}
use Rattle.cluster_run.specs.States.{Setup, State}
use Rattle.cluster_run.specs.declared.fault.WorldFault.{WorldFault}
use Rattle.cluster_run.specs.declared.fault.WorldFault.TheVariants as world
use Rattle.premise_watch.specs.declared.broken.Broken.{Broken}

-- ---- steps that may fail

pub record Between {A B E : Type 0} (a : Result A E) (f : A → Result B E) (b : B) : Type 0 where
  pub start : A
  pub first : a ≡ Ok start
  pub second : f start ≡ Ok b

pub between : {A B E : Type 0} (a : Result A E) (f : A → Result B E) (b : B) → (a >>= f) ≡ Ok b → Between a f b
between (Ok x) f b h = record { start = x; first = refl; second = h }
between (Err e) f b h = absurd cc

-- ---- what events come to, from a state

pub record Goes (s : Setup) (from : State) (to : Result State Broken) : Type 0 where
  pub events : List EventValue
  pub sized : AreEvents events
  pub ends : run s events from ≡ to

pub sized_append : (xs ys : List EventValue) → AreEvents xs → AreEvents ys → AreEvents (xs ++ ys)
sized_append [] ys h k = k
sized_append (x ∷ xs) ys h k = (h.0, sized_append xs ys h.1 k)

module _ (s : Setup) where
  run_append : (xs ys : List EventValue) (st : State) → run s (xs ++ ys) st ≡ (run s xs st >>= run s ys)
  run_append [] ys st = refl
  run_append (x ∷ xs) ys st = by (kept st (happens s x st)) (λ t. run_append xs ys t)
    where
      by : (r : Result State Broken) → ((t : State) → run s (xs ++ ys) t ≡ (run s xs t >>= run s ys)) →
          (r >>= run s (xs ++ ys)) ≡ ((r >>= run s xs) >>= run s ys)
      by (Ok t) rest = rest t
      by (Err b) rest = refl

  pub run_on : (xs ys : List EventValue) (from st : State) (to : Result State Broken) → run s xs from ≡ Ok st → run s ys st ≡ to →
      run s (xs ++ ys) from ≡ to
  run_on xs ys from st to h k =
      run_append xs ys from ∙ (ap (λ (r : Result State Broken). r >>= run s ys) h ∙ k)

  pub stays : (st : State) → Goes s st (Ok st)
  stays st = record { events = []; sized = tt; ends = refl }

  pub goes_on : (st t : State) (to : Result State Broken) → Goes s st (Ok t) → Goes s t to → Goes s st to
  goes_on st t to g h = record {
    events = g.events ++ h.events;
    sized = sized_append g.events h.events g.sized h.sized;
    ends = run_on g.events h.events st t to g.ends h.ends;
  }

  pub one_goes : (e : EventValue) (st t : State) → IsEvent e → happens s e st ≡ Ok t → Goes s st (Ok t)
  one_goes e st t i h = record {
    events = e ∷ [];
    sized = (i, tt);
    ends = ap (λ (r : Result State WorldFault). kept st r >>= run s []) h;
  }

  pub one_breaks : (e : EventValue) (st : State) (b : Broken) → IsEvent e → happens s e st ≡ Err (world.Broken b) → Goes s st (Err b)
  one_breaks e st b i h = record {
    events = e ∷ [];
    sized = (i, tt);
    ends = ap (λ (r : Result State WorldFault). kept st r >>= run s []) h;
  }
