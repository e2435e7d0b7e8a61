-- What the preparation of a transaction comes to.
use Rattle.std.proofs.Common.{◌≡◌, ◌∙◌, ℕ, refl, sym, ap, subst}
use Rattle.std.specs.Option.{option_map_or}
use Rattle.std.specs.Prelude.{Option, Some, None, Result, Ok, option_and_then, slice_get}
use Rattle.keyring.specs.declared.verifier.Verifier as verifiers
use Rattle.keyring.specs.declared.signer.Signer as signers
use Rattle.cluster_run.specs.Events.{Prepare, happens, prepare_fault, prepares_at, prepares_lie, prepares_own}
use Rattle.cluster_run.specs.States.{BegunValue, Setup, State}
use Rattle.node_steps.specs.Refusing.{unless_refused}
use Rattle.cluster_world.specs.Beginning.{own_slot}
use Rattle.cluster_world.specs.Comes.{Comes}
use Rattle.cluster_world.specs.EventValues.{event_value}
use Rattle.cluster_world.specs.declared.engine.Engine.{Engine}
use Rattle.cluster_world.specs.declared.event.Event.{Event}
use Rattle.cluster_world.specs.declared.fault.StepFault.{StepFault}
use Rattle.cluster_world.proofs.BeginLaws.{IsOwn, own_of, slotless}

-- a correct client prepares what it holds
pub prepares_as : (s : Setup) (st : State) (tx client slot : ℕ) (own : IsOwn st.begun tx client slot) →
    happens s (Prepare tx) st ≡ prepares_own s tx own.b slot st
prepares_as s st tx client slot own =
    ap (λ o. option_map_or (λ b. prepares_at s tx b st) o (Ok st)) own.at
    ∙ ap (λ o. option_map_or (λ n. prepares_own s tx own.b n st) o
    (unless_refused (prepare_fault s own.b st) (prepares_lie s tx own.b st))) own.slot

module _ {V S : Type 0} (v : verifiers.Ghosts V) (g : signers.Ghosts S) (s : Setup) (st : State) where
  -- what an event comes to, by another name of it
  pub comes_event : (core : Engine V S v g) (r : Result (Unit {0}) StepFault) (a b : Event) → a ≡ b →
      Comes s st (happens s (event_value b) st) core r → Comes s st (happens s (event_value a) st) core r
  comes_event core r a b e h = subst (λ x. Comes s st (happens s (event_value x) st) core r) (sym e) h

module _ {V S : Type 0} (v : verifiers.Ghosts V) (g : signers.Ghosts S) (s : Setup) (st : State) (tx : ℕ) where
  -- nobody's transaction, or a faulty client's
  pub prepares_unheld : (core : Engine V S v g) (r : Result (Unit {0}) StepFault) → own_slot st.begun tx ≡ None →
      ((b : BegunValue) → slice_get st.begun tx ≡ Some b → b.slot ≡ None → Comes s st (happens s (Prepare tx) st) core r) →
      (slice_get st.begun tx ≡ None → Comes s st (happens s (Prepare tx) st) core r) →
      Comes s st (happens s (Prepare tx) st) core r
  prepares_unheld core r e held unbegun = by (slice_get st.begun tx) refl e
    where
      by : (o : Option BegunValue) → slice_get st.begun tx ≡ o → option_and_then own_of o ≡ None →
          Comes s st (happens s (Prepare tx) st) core r
      by None at q = unbegun at
      by (Some b) at q = held b at (slotless b q)
