-- What a client decides, and when it starts a second stage.
use Rattle.std.specs.Prelude.{◌≡◌, ◌+◌, ◌≤◌, ◌++◌, ⊤, ℕ, List, [], ◌∷◌, Bool, true, false, not, ◌&&◌, Option, Some}
use Rattle.std.specs.Prelude.{None, option_map, option_and_then, Result, Ok, Err, is_some, map, slice_get, Contains}
use Rattle.std.specs.Prelude.{if◌then◌else◌}
use Rattle.std.specs.Option.{option_map_or}
use Rattle.basil_types.specs.Built.{or_else}
use Rattle.basil_types.specs.Setting.{Setting}
use Rattle.basil_types.specs.Transaction.{TransactionValue, id}
use Rattle.certificates.specs.declared.fault.FrameFault.{FrameFault}
use Rattle.certificates.specs.declared.fault.FrameFault.TheVariants.{BadFrame}
use Rattle.frame_views.specs.declared.fault.BadFrame as faults
use Rattle.frame_views.specs.Fitting.{bounds_of}
use Rattle.frame_views.specs.Frames.{frame_in}
use Rattle.frame_views.specs.Values.{MessageValue, Read, ReadReply, St1, Vote, St2, LogReply, Writeback, Recover}
use Rattle.frame_views.specs.Values.{Invoke, Elect, Decide}
use Rattle.node_steps.specs.Envelopes.{EnvelopeValue}
use Rattle.client_recover.specs.Certifying.{decided}
use Rattle.client_recover.specs.Pursuits.{outcome}
use Rattle.client_recover.specs.Taken.{PursuitValue, TakenValue, DecidedValue}
use Rattle.client_core.specs.Clients.{ClientSelf, ClientValue, SlotValue}
use Rattle.client_core.specs.Slots.{slot_of_id}
use Rattle.client_core.specs.Taking.{taken_of}
use Rattle.client_laws.specs.Steps.{Step, Frame, step, client_after}

-- the formed or recovered transaction in a slot
abbrev pub pursuit_in : ClientValue → (slot : ℕ) → Option PursuitValue
pursuit_in client slot = option_and_then (λ (s : SlotValue). s.pursuit) (slice_get client.slots slot)

-- ---- second stages

abbrev pub has_started : ClientValue → (slot : ℕ) → Bool
has_started client slot = option_map_or (λ (p : PursuitValue). p.second) (pursuit_in client slot) false

abbrev pub starts : (old new : ClientValue) → (slot : ℕ) → Bool
starts old new slot = not (has_started old slot) && has_started new slot

-- in how many of these steps the second stage of the transaction in a slot starts
abbrev pub starts_in : ClientSelf → ClientValue → (slot : ℕ) → List Step → ℕ
starts_in me client slot [] = 0
starts_in me client slot (s ∷ ss) =
    (if starts client (step me client s).client slot then 1 else 0)
    + starts_in me (step me client s).client slot ss

-- the transaction of a second stage's message
abbrev pub second_of : MessageValue → Option TransactionValue
second_of (Read m) = None
second_of (ReadReply m) = None
second_of (St1 m) = None
second_of (Vote m) = None
second_of (St2 m) = Some m.transaction
second_of (LogReply m) = None
second_of (Writeback m) = None
second_of (Recover m) = None
second_of (Invoke m) = None
second_of (Elect m) = None
second_of (Decide m) = None

-- this transaction's second stage starts in some slot
abbrev pub StartsFor : TransactionValue → (old new : ClientValue) → Type 0
StartsFor t old new =
    (slot : ℕ) × (starts old new slot ≡ true)
    × (option_map (λ (p : PursuitValue). p.transaction) (pursuit_in new slot) ≡ Some t)

-- a second stage starts at most once in each slot, and its message is sent only then
pub record StartsOnce : Type 0 where
  pub once : (me : ClientSelf) (client : ClientValue) (slot : ℕ) (steps : List Step) →
      starts_in me client slot steps ≤ 1
  pub told : (me : ClientSelf) (client : ClientValue) (s : Step) (e : EnvelopeValue) (t : TransactionValue) →
      Contains (step me client s).sent e → second_of e.message ≡ Some t → StartsFor t client (step me client s).client

-- ---- decisions

abbrev pub outcome_at : ClientSelf → ClientValue → (slot : ℕ) → Option DecidedValue
outcome_at me client slot = option_and_then (outcome me.cluster) (pursuit_in client slot)

-- an outcome stays, with its certificate
abbrev pub OutcomesStay : Type 0
OutcomesStay =
    (me : ClientSelf) (client : ClientValue) (slot : ℕ) (d : DecidedValue) (steps : List Step) →
    outcome_at me client slot ≡ Some d → outcome_at me (client_after me client steps) slot ≡ Some d

-- what is taken of a frame for a transaction, or the first fault
abbrev pub taken_of_read :
    ClientSelf → TransactionValue → Result MessageValue faults.BadFrame → Result TakenValue FrameFault
taken_of_read me t (Ok m) = taken_of me.accepts me.cluster t m
taken_of_read me t (Err fault) = Err (BadFrame fault)

abbrev pub taken_in : ClientSelf → TransactionValue → List ℕ → Result TakenValue FrameFault
taken_in me t frame = taken_of_read me t (frame_in (bounds_of me.cluster) frame)

-- valid frames for a transaction, and what is taken of each
abbrev pub AreTaken : ClientSelf → TransactionValue → List (List ℕ) → List TakenValue → Type 0
AreTaken me t [] [] = ⊤
AreTaken me t [] (x ∷ xs) = ⊥
AreTaken me t (frame ∷ frames) [] = ⊥
AreTaken me t (frame ∷ frames) (x ∷ xs) = (taken_in me t frame ≡ Ok x) × AreTaken me t frames xs

-- what is decided first: by what was taken, or else by it and the first of these, and so on
abbrev pub first_decided : Setting → TransactionValue → (taken more : List TakenValue) → Option DecidedValue
first_decided c t taken [] = decided c t taken
first_decided c t taken (x ∷ more) = or_else (decided c t taken) (first_decided c t (taken ++ x ∷ []) more)

-- after valid frames for a held transaction its outcome is what the five rules decide first, and there is one where
-- they decide by all that was taken
pub record DecidesBy (me : ClientSelf) (client : ClientValue) (slot : ℕ) (p : PursuitValue) (frames : List (List ℕ))
    (taken : List TakenValue) : Type 0 where
  pub first : outcome_at me (client_after me client (map Frame frames)) slot
      ≡ first_decided me.cluster p.transaction p.taken taken
  pub decides : is_some (decided me.cluster p.transaction (p.taken ++ taken)) ≡ true →
      is_some (outcome_at me (client_after me client (map Frame frames)) slot) ≡ true

abbrev pub DecidingSetDecides : Type 0
DecidingSetDecides =
    (me : ClientSelf) (client : ClientValue) (slot : ℕ) (p : PursuitValue) (frames : List (List ℕ))
    (taken : List TakenValue) →
    slot_of_id client (id p.transaction) ≡ Some slot → pursuit_in client slot ≡ Some p →
    AreTaken me p.transaction frames taken → DecidesBy me client slot p frames taken
