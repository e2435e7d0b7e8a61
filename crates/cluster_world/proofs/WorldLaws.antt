-- The run that a world is.
use Rattle.std.proofs.Common.{◌≡◌, ◌∙◌, false, List, [], ◌∷◌, ◌++◌, refl, ap}
use Rattle.std.specs.Prelude.{Result, Ok, Err}
use Rattle.basil_types.specs.Steps.{◌>>=◌}
use Rattle.keyring.specs.declared.verifier.Verifier as verifiers
use Rattle.keyring.specs.declared.signer.Signer as signers
use Rattle.premise_watch.specs.declared.broken.Broken.{Broken}
use Rattle.cluster_run.specs.declared.fault.WorldFault.{WorldFault}
use Rattle.cluster_run.specs.declared.fault.WorldFault.TheVariants as worlds
use Rattle.cluster_run.specs.Events.{EventValue, happens, kept, run}
use Rattle.cluster_run.specs.Safety.{AreEvents, IsEvent}
use Rattle.cluster_run.specs.States.{IsSetup, KitValue, Setup, State, start}
use Rattle.cluster_world.specs.Comes.{Comes}
use Rattle.cluster_world.specs.declared.engine.Engine.{Engine}
use Rattle.cluster_world.specs.declared.fault.StepFault.{StepFault}
use Rattle.cluster_world.specs.declared.fault.StepFault.TheVariants as faults
use Rattle.cluster_world.specs.Shows.{Shows}
use Rattle.cluster_world.specs.Worlds.{Ran, is_end}

sized_append : (xs ys : List EventValue) → AreEvents xs → AreEvents ys → AreEvents (xs ++ ys)
sized_append [] ys h k = k
sized_append (x ∷ xs) ys h k = (h.0, sized_append xs ys h.1 k)

run_append : (s : Setup) (xs ys : List EventValue) (st : State) → run s (xs ++ ys) st ≡ (run s xs st >>= run s ys)
run_append s [] ys st = refl
run_append s (x ∷ xs) ys st = by (kept st (happens s x st)) (λ t. run_append s xs ys t)
  where
    by : (r : Result State Broken) → ((t : State) → run s (xs ++ ys) t ≡ (run s xs t >>= run s ys)) →
        (r >>= run s (xs ++ ys)) ≡ ((r >>= run s xs) >>= run s ys)
    by (Ok t) rest = rest t
    by (Err b) rest = refl

module _ {V S : Type 0} (v : verifiers.Ghosts V) (g : signers.Ghosts S) (new : Engine V S v g) where
  -- before its first event
  pub ran_first : (s : Setup) → IsSetup s → Shows s new (start s) → Ran new s.kit
  ran_first s proper shows = record {
    setup = s;
    proper = proper;
    kit = refl;
    events = [];
    sized = tt;
    state = start s;
    comes = refl;
    shows = shows;
  }

  -- one event more
  pub ran_on : (old : Engine V S v g) (k : KitValue) (e : EventValue) (r : Result (Unit {0}) StepFault) → IsEvent e →
      ((s : Setup) (st : State) → Shows s old st → Comes s st (happens s e st) new r) → is_end r ≡ false → Ran old k → Ran new k
  ran_on old k e r sized comes going h = by r (comes h.setup h.state h.shows) going
    where
      on : (after : State) → kept h.state (happens h.setup e h.state) ≡ Ok after → Shows h.setup new after → Ran new k
      on after q shows = record {
        setup = h.setup;
        proper = h.proper;
        kit = h.kit;
        events = h.events ++ e ∷ [];
        sized = sized_append h.events (e ∷ []) h.sized (sized, tt);
        state = after;
        comes = run_append h.setup h.events (e ∷ []) (start h.setup)
            ∙ (ap (λ (x : Result State Broken). x >>= run h.setup (e ∷ [])) h.comes
            ∙ ap (λ (x : Result State Broken). x >>= run h.setup []) q);
        shows = shows;
      }

      refused : (w : WorldFault) → happens h.setup e h.state ≡ Err w → kept h.state (Err w) ≡ Ok h.state → Shows h.setup new h.state →
          Ran new k
      refused w q same shows = on h.state (ap (kept h.state) q ∙ same) shows

      by : (x : Result (Unit {0}) StepFault) → Comes h.setup h.state (happens h.setup e h.state) new x → is_end x ≡ false → Ran new k
      by (Ok done) c q = on c.0 (ap (kept h.state) c.1) c.2
      by (Err (faults.World (worlds.Broken b))) c q = absurd cc
      by (Err (faults.World (worlds.PoolFull m n))) c q = refused (worlds.PoolFull m n) c.0 refl c.1
      by (Err (faults.World (worlds.Call f))) c q = refused (worlds.Call f) c.0 refl c.1
      by (Err (faults.World (worlds.Exhausted p))) c q = refused (worlds.Exhausted p) c.0 refl c.1
      by (Err faults.NoMemory) c q = absurd cc
