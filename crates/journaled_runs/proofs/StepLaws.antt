-- What an event comes to in a run whose replicas write down what they take.
use Rattle.std.proofs.Common.{◌≡◌, ◌∙◌, sym, ap, subst}
use Rattle.std.specs.Prelude.{None, Result, Ok, Err}
use Rattle.basil_types.specs.Steps.{◌>>=◌}
use Rattle.keyring.specs.declared.verifier.Verifier as verifiers
use Rattle.keyring.specs.declared.signer.Signer as signers
use Rattle.node_steps.specs.Refusing.{unless_refused}
use Rattle.run_journals.specs.declared.journals.Journals.{Journals}
use Rattle.cluster_run.specs.declared.fault.WorldFault.{WorldFault}
use Rattle.cluster_run.specs.declared.fault.WorldFault.TheVariants.{Broken, PoolFull, Call, Exhausted}
use Rattle.cluster_run.specs.Events.{EventValue, happens}
use Rattle.cluster_run.specs.States.{KitValue, Setup, State}
use Rattle.cluster_world.specs.Comes.{Comes}
use Rattle.cluster_world.specs.declared.engine.Engine.{Engine}
use Rattle.cluster_world.specs.declared.fault.StepFault.{StepFault}
use Rattle.cluster_world.specs.declared.fault.StepFault.TheVariants as fault
use Rattle.cluster_world.specs.Shows.{Shows}
use Rattle.delivery_laws.specs.Deliveries.{takes}
use Rattle.delivery_laws.specs.Laws.{BooksFollowDeliveries}
use Rattle.journaled_runs.specs.Handing.{FindsRoom, WritesNothing}
use Rattle.journaled_runs.specs.Journaling.{JournaledState, full, happens_in, with_state, written}
use Rattle.journaled_runs.specs.Shown.{ComesTo, Holds, KeepsAll}
use Rattle.journaled_runs.proofs.Owning.{none_full, none_written, own_on}

-- where the journal has room, the event comes to what it comes to without journals
pub in_room : (s : Setup) (x : JournaledState) (e : EventValue) → full x.journals (takes s x.state e) ≡ None →
    (r : Result State WorldFault) → happens s e x.state ≡ r →
    happens_in s e x ≡ (r >>= with_state (takes s x.state e) x.journals)
in_room s x e room r h =
    ap (λ o. unless_refused o (happens s e x.state >>= with_state (takes s x.state e) x.journals)) room
    ∙ ap (λ (y : Result State WorldFault). y >>= with_state (takes s x.state e) x.journals) h

-- the state after it
abbrev pub after_in : Setup → EventValue → JournaledState → State → JournaledState
after_in s e x after = record { state = after; journals = written (takes s x.state e) x.journals }

module _ {V S : Type 0} (v : verifiers.Ghosts V) (g : signers.Ghosts S) (s : Setup) (kit : KitValue) (x : JournaledState)
    (e : EventValue) (core : Engine V S v g) where
  -- what is written is kept
  pub kept_on : BooksFollowDeliveries → (old new : Journals V S v g) (after : State) → happens s e x.state ≡ Ok after →
      KeepsAll s kit old x → Holds s new (written (takes s x.state e) x.journals) → KeepsAll s kit new (after_in s e x after)
  kept_on law old new after h keeps holds = record {
    kit_is = keeps.kit_is;
    holds = holds;
    own = own_on law s x.state after e x.journals h keeps.own;
  }

  -- it happened, and what was taken is written down
  pub comes_on : BooksFollowDeliveries → (old new : Journals V S v g) → full x.journals (takes s x.state e) ≡ None →
      Comes s x.state (happens s e x.state) core (Ok tt) → KeepsAll s kit old x →
      Holds s new (written (takes s x.state e) x.journals) → ComesTo s kit x (happens_in s e x) core new (Ok tt)
  comes_on law old new room c keeps holds =
      (after_in s e x c.0, in_room s x e room (Ok c.0) c.1, c.2, kept_on law old new c.0 c.1 keeps holds)

  -- it is refused, or ends the run
  pub comes_not : (js : Journals V S v g) → full x.journals (takes s x.state e) ≡ None → (f : StepFault) →
      Comes s x.state (happens s e x.state) core (Err f) → KeepsAll s kit js x → ComesTo s kit x (happens_in s e x) core js (Err f)
  comes_not js room (fault.World (Broken b)) c keeps = in_room s x e room (Err (Broken b)) c
  comes_not js room (fault.World (PoolFull m n)) c keeps = (in_room s x e room (Err (PoolFull m n)) c.0, c.1, keeps)
  comes_not js room (fault.World (Call f)) c keeps = (in_room s x e room (Err (Call f)) c.0, c.1, keeps)
  comes_not js room (fault.World (Exhausted p)) c keeps = (in_room s x e room (Err (Exhausted p)) c.0, c.1, keeps)
  comes_not js room fault.NoMemory c keeps = tt

  -- nothing is written down
  pub comes_quiet : BooksFollowDeliveries → (js : Journals V S v g) → WritesNothing s x e → KeepsAll s kit js x →
      (r : Result (Unit {0}) StepFault) → Comes s x.state (happens s e x.state) core r →
      ComesTo s kit x (happens_in s e x) core js r
  comes_quiet law js none keeps (Ok tt) c =
      comes_on law js js (none_full x.journals (takes s x.state e) none) c keeps
      (subst (Holds s js) (sym (none_written x.journals (takes s x.state e) none)) keeps.holds)
  comes_quiet law js none keeps (Err f) c = comes_not js (none_full x.journals (takes s x.state e) none) f c keeps

  -- the journal is full, whatever would have come of the event
  pub comes_full : (js : Journals V S v g) (answer : Result JournaledState WorldFault) (f : StepFault) →
      FindsRoom s kit x (full x.journals (takes s x.state e)) js (Err f) → Shows s core x.state →
      ComesTo s kit x (unless_refused (full x.journals (takes s x.state e)) answer) core js (Err f)
  comes_full js answer (fault.World (Broken b)) c shows = absurd c
  comes_full js answer (fault.World (PoolFull m n)) c shows = (ap (λ o. unless_refused o answer) c.0, shows, c.1)
  comes_full js answer (fault.World (Call f)) c shows = absurd c
  comes_full js answer (fault.World (Exhausted p)) c shows = absurd c
  comes_full js answer fault.NoMemory c shows = tt
