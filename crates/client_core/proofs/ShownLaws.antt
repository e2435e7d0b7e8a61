-- Some value is always shown, and a plan that answers for it can be committed.
use Rattle.std.proofs.Common.{◌≡◌, ◌∙◌, ◌≤◌, ◌<◌, ℕ, List, [], ◌∷◌, length, length-append, Option, Some, None, refl, ap, subst, arith}
use Rattle.std.proofs.lemmas.List.{length-set}
use Rattle.std.proofs.Math.Bridge.{le_prop}
use Rattle.std.specs.Prelude.{IfOk, OnErr, OnOk, Result, Ok, Err, option_map, option_and_then, slice_get}
use Rattle.std.specs.Option.{option_map_or}
use Rattle.std.proofs.Math.Logic.{∥∥₁_map, ∥∥₁_elim}
use Rattle.basil_types.specs.Transaction.{TransactionValue, id}
use Rattle.certificates.specs.declared.fault.FrameFault.{FrameFault}
use Rattle.client_recover.specs.Taken.{PursuitValue}
use Rattle.keyring.specs.Signing.{Signing}
use Rattle.node_steps.specs.Pens.{PenValue, after_one}
use Rattle.node_steps.specs.Refusing.{unless}
use Rattle.txn_meta.specs.Form.{form_fault}
use Rattle.client_steps.specs.declared.fault.CallFault.{CallFault}
use Rattle.client_steps.specs.declared.fault.CallFault.TheVariants.{BadTransaction}
use Rattle.client_core.specs.declared.held.Held.{Held}
use Rattle.client_core.specs.declared.work.ClientPlan.{ClientPlan}
use Rattle.client_core.specs.Asks.{by_call, by_frame}
use Rattle.client_core.specs.declared.work.Work.{Work}
use Rattle.client_core.specs.declared.work.Work.TheVariants.{Nothing, Ask, Pursue, Start, Hold, Reply, Take}
use Rattle.client_core.specs.Calls.{begin_done, begun_slot, call_recover, recover_by, recover_held, recovered_at, recovered_slot}
use Rattle.client_core.specs.Clients.{ClientDone, ClientSelf, ClientValue, SlotValue}
use Rattle.client_core.specs.Done.{CanCommit, IsShown, KeepsSlots, Shows}
use Rattle.client_core.specs.Receiving.{IsPlannedFrame}
use Rattle.client_core.specs.Showing.{SameHeld, ShowsHeld}
use Rattle.client_core.specs.Slots.{is_named, slot_of_id, with_slot}
use Rattle.client_core.specs.Works.{CanPerform, IsPlanned, Leaves, WillDo, Written, with_new}
use Rattle.client_core.proofs.FoundLaws.{position_within}
use Rattle.client_core.proofs.HeldLaws.{same_held}
use Rattle.client_core.proofs.ShowingLaws.{slots_count}

-- what was shown still is
pub still_shown : (old new : Held) (pen : PenValue) → ((v : ClientValue) → ShowsHeld old v → ShowsHeld new v) → ∥ IsShown old pen ∥₁
    → ∥ IsShown new pen ∥₁
still_shown old new pen keeps some = ∥∥₁_map some (λ x. (x.0, record { shows = keeps x.0 x.1.shows; place = x.1.place }))

-- what begins, and what is written
pub begun_shown : (old new : Held) (pen : PenValue) (time : ℕ) (r : Result ℕ CallFault)
    → ((v : ClientValue) → ShowsHeld old v → OnOk r (ShowsHeld new (begin_done v time).client)) → OnErr r (SameHeld old new)
    → ∥ IsShown old pen ∥₁ → ∥ IsShown new pen ∥₁
begun_shown old new pen time (Ok slot) done same some =
    ∥∥₁_map some (λ x. ((begin_done x.0 time).client, record { shows = done x.0 x.1.shows; place = x.1.place }))
begun_shown old new pen time (Err e) done same some = still_shown old new pen (λ v h. same_held old new v same h) some

pub written_shown : (old new : Held) (pen : PenValue) (answer : ClientValue → Result ClientDone CallFault) (r : Result (Unit {0}) CallFault)
    → ((v : ClientValue) → ShowsHeld old v → Written new v (answer v) r) → ((v : ClientValue) → ShowsHeld old v → OnErr r (ShowsHeld new v))
    → ∥ IsShown old pen ∥₁ → ∥ IsShown new pen ∥₁
written_shown old new pen answer (Ok x) done same some = ∥∥₁_map some (λ y.
    let d = done y.0 y.1.shows in ((d.0).client, record { shows = d.2; place = d.3 ∙ y.1.place }))
written_shown old new pen answer (Err e) done same some = still_shown old new pen same some

module _ (signing : Signing) (pen : PenValue) (old held : Held) (keeps : (v : ClientValue) → ShowsHeld old v → ShowsHeld held v)
    (some : ∥ IsShown old pen ∥₁) where
  pub can_commit : (plan : ClientPlan) (answer : ClientValue → Result ClientDone CallFault) → CanPerform signing.size pen.left held plan
      → ((v : ClientValue) → Shows old pen v → IsPlanned signing held v (Ok plan) (answer v)) → CanCommit signing pen held plan
  can_commit plan answer can planned =
      record {
        can = can;
        meant = ∥∥₁_map some (λ x.
            let a = planned x.0 x.1 in
            (x.0, a.0, record { shows = keeps x.0 x.1.shows; place = x.1.place }, a.2));
      }

  pub frame_commit : (plan : ClientPlan) (answer : ClientValue → Result ClientDone FrameFault) → CanPerform signing.size pen.left held plan
      → ((v : ClientValue) → Shows old pen v → IsPlannedFrame signing held v (Ok plan) (answer v)) → CanCommit signing pen held plan
  frame_commit plan answer can planned =
      record {
        can = can;
        meant = ∥∥₁_map some (λ x.
            let a = planned x.0 x.1 in
            (x.0, a.0, record { shows = keeps x.0 x.1.shows; place = x.1.place }, a.2));
      }

  -- the plan of a call or of a frame, as the plan of what was asked
  pub call_ready : (r : Result ClientPlan CallFault) (answer : ClientValue → Result ClientDone CallFault)
      → IfOk r (CanPerform signing.size pen.left held) → ((v : ClientValue) → Shows old pen v → IsPlanned signing held v r (answer v))
      → IfOk (by_call r) (CanCommit signing pen held)
  call_ready (Ok plan) answer can planned = can_commit plan answer can planned
  call_ready (Err e) answer can planned = tt

  pub frame_ready : (r : Result ClientPlan FrameFault) (answer : ClientValue → Result ClientDone FrameFault)
      → IfOk r (CanPerform signing.size pen.left held) → ((v : ClientValue) → Shows old pen v → IsPlannedFrame signing held v r (answer v))
      → IfOk (by_frame r) (CanCommit signing pen held)
  frame_ready (Ok plan) answer can planned = frame_commit plan answer can planned
  frame_ready (Err e) answer can planned = tt

-- ---- how many slots

pub kept_count : (old new : Held) (pen : PenValue) → ((v : ClientValue) → ShowsHeld old v → ShowsHeld new v) → ∥ IsShown old pen ∥₁
    → KeepsSlots old new
kept_count old new pen keeps some = ∥∥₁_elim some le_prop (λ x.
    let a = slots_count old.slots.items x.0.slots x.1.shows.slots in
    let b = slots_count new.slots.items x.0.slots (keeps x.0 x.1.shows).slots in
    omega (arith, a, b))

pub slots_then : (a b c : Held) → KeepsSlots a b → KeepsSlots b c → KeepsSlots a c
slots_then a b c first second = omega (arith, first, second)

-- a slot that is set, and one more
count_set : (before after : ClientValue) (slot : ℕ) (s : SlotValue) →
    after ≡ with_slot before slot s → length before.slots ≤ length after.slots
count_set before after slot s is =
    let same = ap (λ (v : ClientValue). length v.slots) is ∙ length-set before.slots slot s in omega (arith, same)

count_new : (before after : ClientValue) (s : SlotValue) → after ≡ with_new before s → length before.slots ≤ length after.slots
count_new before after s is =
    let more = ap (λ (v : ClientValue). length v.slots) is ∙ length-append before.slots (s ∷ []) in omega (arith, more)

leaves_count : (signing : Signing) (held : Held) (before : ClientValue) (w : Work) (after : ClientValue) → ShowsHeld held before
    → Leaves signing held before w after → length before.slots ≤ length after.slots
leaves_count signing held before Nothing after h l =
    let a = slots_count held.slots.items before.slots h.slots in
    let b = slots_count held.slots.items after.slots (l.0).slots in
    omega (arith, a, b)
leaves_count signing held before (Ask slot asked) after h l = count_set before after slot _ l.1.2
leaves_count signing held before (Pursue slot formed pending) after h l =
    count_set (record before { pen = after_one before.pen }) after slot _ l.1.2
leaves_count signing held before (Start slot) after h l = count_set before after slot _ l.1.2
leaves_count signing held before (Hold recovered) after h l = count_new before after l.1.0 l.1.2
leaves_count signing held before (Reply slot read reply) after h l = count_set before after slot _ l.1.3
leaves_count signing held before (Take slot starts) after h l = count_set before after slot _ l.1.3

pub commit_count : (signing : Signing) (pen : PenValue) (old new : Held) (plan : ClientPlan) → CanCommit signing pen old plan
    → ((v : ClientValue) (d : ClientDone) → Shows old pen v → WillDo signing old v plan d → ShowsHeld new d.client) → KeepsSlots old new
commit_count signing pen old new plan can done = ∥∥₁_elim can.meant le_prop (λ x.
    let a = slots_count old.slots.items x.0.slots (x.2).shows.slots in
    let b = slots_count new.slots.items x.1.client.slots (done x.0 x.1 x.2 x.3).slots in
    let c = leaves_count signing old x.0 plan.work x.1.client (x.2).shows (x.3).leaves in
    omega (arith, a, b, c))

-- ---- the slot that a recovery answers

within : (me : ClientSelf) (v : ClientValue) (t : TransactionValue) (signature : List ℕ)
    → recovered_at v t < length (recover_by me v t signature (slot_of_id v (id t))).client.slots
within me v t signature = by (slot_of_id v (id t)) refl
  where
    again : (place : ℕ) (o : Option PursuitValue) → place < length v.slots → place < length (recover_held me v o).client.slots
    again place None h = h
    again place (Some p) h = h

    by : (o : Option ℕ) → slot_of_id v (id t) ≡ o
        → option_map_or (λ (place : ℕ). place) o (length v.slots) < length (recover_by me v t signature o).client.slots
    by None is = let more = length-append v.slots (recovered_slot t signature ∷ []) in omega (arith, more)
    by (Some place) is =
        again place (option_and_then (λ (s : SlotValue). s.pursuit) (slice_get v.slots place))
        (position_within (is_named (id t)) v.slots place is)

pub recovered_held : (me : ClientSelf) (v : ClientValue) (t : TransactionValue) (signature : List ℕ) (d : ClientDone)
    → call_recover me v t signature ≡ Ok d → recovered_at v t < length d.client.slots
recovered_held me v t signature d h = by (option_map BadTransaction (form_fault t)) h
  where
    done : ClientDone
    done = recover_by me v t signature (slot_of_id v (id t))

    value : Result ClientDone CallFault → ClientDone
    value (Ok x) = x
    value (Err e) = done

    by : (o : Option CallFault) → unless o done ≡ Ok d → recovered_at v t < length d.client.slots
    by None is = subst (λ (x : ClientDone). recovered_at v t < length x.client.slots) (ap value is) (within me v t signature)
    by (Some fault) is = absurd cc

-- it is held by what shows what the recovery leaves
pub answered_held : (me : ClientSelf) (pen : PenValue) (old new : Held) (t : TransactionValue) (signature : List ℕ) (slot : ℕ)
    → ((v : ClientValue) → Shows old pen v
    → (slot ≡ recovered_at v t) × (d : ClientDone) × (call_recover me v t signature ≡ Ok d) × ShowsHeld new d.client)
    → ∥ IsShown old pen ∥₁ → slot < length new.slots.items
answered_held me pen old new t signature slot done some = ∥∥₁_elim some le_prop (λ x.
    let a = done x.0 x.1 in
    let there = recovered_held me x.0 t signature a.1 a.2 in
    let count = slots_count new.slots.items (a.1).client.slots (a.3).slots in
    let is = a.0 in
    omega (arith, there, count, is))

-- and so is the slot of what begins
pub begun_held : (pen : PenValue) (old new : Held) (slot time : ℕ)
    → ((v : ClientValue) → Shows old pen v → (slot ≡ length v.slots) × ShowsHeld new (begin_done v time).client)
    → ∥ IsShown old pen ∥₁ → slot < length new.slots.items
begun_held pen old new slot time done some = ∥∥₁_elim some le_prop (λ x.
    let a = done x.0 x.1 in
    let count = slots_count new.slots.items (begin_done x.0 time).client.slots (a.1).slots in
    let more = length-append (x.0).slots (begun_slot time ∷ []) in
    let is = a.0 in
    omega (arith, count, more, is))

pub begun_more : (pen : PenValue) (old new : Held) (time : ℕ)
    → ((v : ClientValue) → Shows old pen v → ShowsHeld new (begin_done v time).client)
    → ∥ IsShown old pen ∥₁ → KeepsSlots old new
begun_more pen old new time done some = ∥∥₁_elim some le_prop (λ x.
    let before = slots_count old.slots.items (x.0).slots (x.1).shows.slots in
    let count = slots_count new.slots.items (begin_done x.0 time).client.slots (done x.0 x.1).slots in
    let more = length-append (x.0).slots (begun_slot time ∷ []) in
    omega (arith, before, count, more))
