-- A client of a run that is asked.
use Rattle.std.proofs.Common.{◌≡◌, ◌<◌, ◌≤◌, ℕ, zero, suc, true, false, List, []}
use Rattle.std.proofs.Common.{◌∷◌, Ok, Err, length, refl, sym, ap, subst, ◌∙◌, arith}
use Rattle.std.proofs.lemmas.Bool.{leb-false, leb-true}
use Rattle.std.proofs.lemmas.Option.{same_Some}
use Rattle.std.specs.Prelude.{◌≢◌, Result, Some, None, nat_le, slice_get, ◌&&◌}
use Rattle.basil_types.specs.declared.transaction.parts.WritePart.{WritePart}
use Rattle.node_steps.specs.Refusing.{unless}
use Rattle.client_core.specs.Calls.{by_slot, call_write, invoke_by, prepare_done}
use Rattle.client_core.specs.Calls.{prepare_fault, read_at, settle_by, write_done, write_fault}
use Rattle.client_core.specs.declared.ask.Ask.TheVariants as asks
use Rattle.basil_types.specs.declared.memory.NoMemory.{NoMemory}
use Rattle.basil_types.specs.declared.outbox.Outbox.{Outbox}
use Rattle.basil_types.specs.declared.party.Party.TheVariants as parties
use Rattle.certificates.specs.declared.fault.FrameFault.TheVariants as frames
use Rattle.client_core.specs.Clients.{ClientDone, ClientSelf, ClientValue, SlotValue, quiet}
use Rattle.client_core.specs.declared.ask.AskFault.{AskFault}
use Rattle.client_core.specs.declared.ask.AskFault.TheVariants.{Call, Frame}
use Rattle.client_steps.specs.declared.fault.CallFault.TheVariants as calls
use Rattle.client_core.specs.declared.client.Client.{Client}
use Rattle.client_core.specs.declared.held.Held.{Held}
use Rattle.client_core.specs.declared.seat.Seat.{Seat}
use Rattle.client_core.specs.declared.work.ClientPlan.{ClientPlan}
use Rattle.client_core.specs.Asks.{CanBeAsked, IsPlannedAsk, answer_to, by_call}
use Rattle.client_core.specs.declared.ask.Ask.{Ask}
use Rattle.client_core.specs.Done.{CanCommit, IsSent, Shows}
use Rattle.client_core.specs.Seats.{self_at}
use Rattle.client_core.specs.Works.{CanPerform, WillDo}
use Rattle.keyring.specs.declared.verifier.Verifier as verifiers
use Rattle.keyring.specs.declared.signer.Signer as signers
use Rattle.node_steps.specs.Pens.{pen_value, GivesItsSize}
use Rattle.cluster_run.specs.Parts.{client_self}
use Rattle.cluster_run.specs.States.{Setup}
use Rattle.cluster_nodes.specs.declared.calling.StandingClient.{StandingClient}
use Rattle.cluster_nodes.specs.declared.handled.Handled.{Handled}
use Rattle.cluster_nodes.specs.declared.handled.Handled.TheVariants.{Refused, Full, Sent}
use Rattle.message_pool.specs.declared.pool.Room.{Room}
use Rattle.cluster_nodes.specs.Asking.{Answers, HasSignature, RefusesAsk, slot_named}
use Rattle.cluster_nodes.specs.Sizes.{ClientPlansTell}
use Rattle.cluster_nodes.specs.Standings.{HoldsAs}
use Rattle.cluster_nodes.proofs.Holding.{gives_after}
use Rattle.cluster_nodes.proofs.Taking.{fits_as_told}

module _ {V S : Type 0} (v : verifiers.Ghosts V) (g : signers.Ghosts S) (s : Setup) (number : ℕ) (c : ClientValue) where
  -- what didn't change
  pub record Keeps (old new : StandingClient V S v g) : Type 0 where
    pub keys : new.client.keys ≡ old.client.keys
    pub seat : new.client.seat ≡ old.client.seat
    pub fixed : g.fixed new.client.pen ≡ g.fixed old.client.pen

  own_kept : (old new : StandingClient V S v g) → Keeps old new → HoldsAs s number old c →
      self_at new.client.seat (v.accepted new.client.keys) (g.fixed new.client.pen) ≡ client_self s number
  own_kept old new k st =
      ap (λ (a : Seat). self_at a (v.accepted new.client.keys) (g.fixed new.client.pen)) k.seat
      ∙ ap (λ (q : V). self_at old.client.seat (v.accepted q) (g.fixed new.client.pen)) k.keys
      ∙ ap (self_at old.client.seat (v.accepted old.client.keys)) k.fixed
      ∙ st.own

  -- where it shows what it showed, it holds what it held
  pub still_holds : (old new : StandingClient V S v g) → Keeps old new → HoldsAs s number old c →
      Shows new.client.held (pen_value (g.spent new.client.pen) (g.left_of new.client.pen)) c → HoldsAs s number new c
  still_holds old new k st shows = record { own = own_kept old new k st; shows = shows; sized = st.sized }

  signing_here : (node : StandingClient V S v g) → HoldsAs s number node c →
      g.fixed node.client.pen ≡ s.kit.signing (parties.Client number)
  signing_here node st = ap (λ (me : ClientSelf). me.signing) st.own

  sized_here : (node : StandingClient V S v g) → HoldsAs s number node c → GivesItsSize (g.fixed node.client.pen) c.pen
  sized_here node st = subst (λ sg. GivesItsSize sg c.pen) (sym (signing_here node st)) st.sized

  -- the plan is of the answer in the run
  pub planned_here : (node : StandingClient V S v g) (held : Held) (plan : ClientPlan) (ask : Ask) → HoldsAs s number node c →
      IsPlannedAsk (g.fixed node.client.pen) held c (Ok plan)
      (answer_to (self_at node.client.seat (v.accepted node.client.keys) (g.fixed node.client.pen)) c ask) →
      IsPlannedAsk (g.fixed node.client.pen) held c (Ok plan) (answer_to (client_self s number) c ask)
  planned_here node held plan ask st p =
      subst (λ (me : ClientSelf). IsPlannedAsk (g.fixed node.client.pen) held c (Ok plan) (answer_to me c ask)) st.own p

  can_here : (node : StandingClient V S v g) (held : Held) (plan : ClientPlan) → HoldsAs s number node c →
      CanPerform (g.fixed node.client.pen).size (g.left_of node.client.pen) held plan →
      CanPerform (g.fixed node.client.pen).size c.pen.left held plan
  can_here node held plan st can =
      subst (λ (n : ℕ). CanPerform (g.fixed node.client.pen).size n held plan) (sym (ap (λ p. p.left) st.shows.place)) can

  -- ---- the three ends

  pub answers_refused : (node : StandingClient V S v g) (room : Room) (a : Result ClientDone AskFault) (e : AskFault)
      (r : Result (Handled AskFault) NoMemory) → HoldsAs s number node c →
      (e ≢ Call calls.NoMemory → e ≢ Frame frames.NoMemory → a ≡ Err e) → RefusesAsk e r → Answers s number c room a r node
  answers_refused node room a e (Ok (Refused same)) st is refuses =
      (is refuses.1.call refuses.1.frame ∙ ap Err (sym refuses.0), st)
  answers_refused node room a e (Ok Full) st is refuses = absurd refuses
  answers_refused node room a e (Ok (Sent out)) st is refuses = absurd refuses
  answers_refused node room a e (Err wanting) st is refuses = st

  pub answers_full : ClientPlansTell → (old new : StandingClient V S v g) (held : Held) (room : Room)
      (a : Result ClientDone AskFault) (plan : ClientPlan) → HoldsAs s number old c → HoldsAs s number new c →
      IsPlannedAsk (g.fixed old.client.pen) held c (Ok plan) a →
      CanPerform (g.fixed old.client.pen).size (g.left_of old.client.pen) held plan →
      (nat_le plan.messages room.messages && nat_le plan.bytes room.bytes) ≡ false → Answers s number c room a (Ok Full) new
  answers_full tell old new held room a plan st now p can lacks =
      let d = p.0 in
      let counts = tell (g.fixed old.client.pen) held c plan d (sized_here old st) (can_here old held plan st can) p.2 in
      (d, p.1, fits_as_told room d.sent _ plan.messages plan.bytes refl counts ∙ lacks, now)

  pub answers_sent : ClientPlansTell → (old new : StandingClient V S v g) (held : Held) (room : Room)
      (a : Result ClientDone AskFault) (plan : ClientPlan) (out : Outbox) → HoldsAs s number old c → Keeps old new →
      (p : IsPlannedAsk (g.fixed old.client.pen) held c (Ok plan) a) →
      CanPerform (g.fixed old.client.pen).size (g.left_of old.client.pen) held plan →
      (nat_le plan.messages room.messages && nat_le plan.bytes room.bytes) ≡ true →
      Shows new.client.held (pen_value (g.spent new.client.pen) (g.left_of new.client.pen)) p.0.client × IsSent out p.0 →
      Answers s number c room a (Ok (Sent out)) new
  answers_sent tell old new held room a plan out st k p can has done =
      let d = p.0 in
      let here = can_here old held plan st can in
      let sized = sized_here old st in
      let counts = tell (g.fixed old.client.pen) held c plan d sized here p.2 in (
        d,
        p.1,
        fits_as_told room d.sent _ plan.messages plan.bytes refl counts ∙ has,
        record { messages = done.1.messages; signed = done.1.signed },
        record {
          own = own_kept old new k st;
          shows = done.0;
          sized = subst (λ sg. GivesItsSize sg d.client.pen) (signing_here old st)
              (gives_after (g.fixed old.client.pen) held c plan d here p.2 sized);
        },
      )

  -- ---- what the calls say

  -- the client after its plan, by the clauses of that
  pub record Planned (old : StandingClient V S v g) (mid : Client V S v g) (a : Result ClientDone AskFault) (plan : ClientPlan) :
      Type 0 where
    pub answer : IsPlannedAsk (g.fixed old.client.pen) mid.held c (Ok plan) a
    pub ready : CanCommit (g.fixed mid.pen) (pen_value (g.spent mid.pen) (g.left_of mid.pen)) mid.held plan
    pub shown : Shows mid.held (pen_value (g.spent mid.pen) (g.left_of mid.pen)) c
    pub pen : mid.pen ≡ old.client.pen

  can_by : (old : StandingClient V S v g) (mid : Client V S v g) (a : Result ClientDone AskFault) (plan : ClientPlan) →
      Planned old mid a plan → CanPerform (g.fixed old.client.pen).size (g.left_of old.client.pen) mid.held plan
  can_by old mid a plan p =
      subst (λ (q : S). CanPerform (g.fixed q).size (g.left_of q) mid.held plan) p.pen p.ready.can

  pub full_by : ClientPlansTell → (old new : StandingClient V S v g) (mid : Client V S v g) (room : Room)
      (a : Result ClientDone AskFault) (plan : ClientPlan) → HoldsAs s number old c → HoldsAs s number new c →
      Planned old mid a plan → (nat_le plan.messages room.messages && nat_le plan.bytes room.bytes) ≡ false →
      Answers s number c room a (Ok Full) new
  full_by tell old new mid room a plan st now p lacks =
      answers_full tell old new mid.held room a plan st now p.answer (can_by old mid a plan p) lacks

  pub sent_by : ClientPlansTell → (old new : StandingClient V S v g) (mid : Client V S v g) (room : Room)
      (a : Result ClientDone AskFault) (plan : ClientPlan) (out : Outbox) → HoldsAs s number old c → Keeps old new →
      Planned old mid a plan →
      ((w : ClientValue) (d : ClientDone) → Shows mid.held (pen_value (g.spent mid.pen) (g.left_of mid.pen)) w →
      WillDo (g.fixed mid.pen) mid.held w plan d →
      Shows new.client.held (pen_value (g.spent new.client.pen) (g.left_of new.client.pen)) d.client × IsSent out d) →
      (nat_le plan.messages room.messages && nat_le plan.bytes room.bytes) ≡ true → Answers s number c room a (Ok (Sent out)) new
  sent_by tell old new mid room a plan out st k p does has =
      answers_sent tell old new mid.held room a plan out st k p.answer (can_by old mid a plan p) has
      (does c p.answer.0 p.shown
      (subst (λ (q : S). WillDo (g.fixed q) mid.held c plan p.answer.0) (sym p.pen) p.answer.2))

-- ---- slots that aren't held

beyond : {A : Type 0} (xs : List A) (i : ℕ) → length xs ≤ i → slice_get xs i ≡ None
beyond [] i h = refl
beyond (x ∷ xs) zero h = absurd (omega arith)
beyond (x ∷ xs) (suc i) h = beyond xs i (omega arith)

-- the call on a slot that isn't held changes nothing
pub write_lacks : (c : ClientValue) (slot : ℕ) (w : WritePart) (count : ℕ) → count ≡ length c.slots → count ≤ slot →
    call_write c slot w ≡ Ok (quiet c)
write_lacks c slot w count same h =
    ap (by_slot c (λ x. unless (write_fault x w) (write_done c slot w x)))
    (beyond c.slots slot (subst (λ n. n ≤ slot) same h))

lacks_by : (me : ClientSelf) (c : ClientValue) (ask : Ask) (slot : ℕ) → slot_named ask ≡ Some slot → length c.slots ≤ slot →
    answer_to me c ask ≡ Ok (quiet c)
lacks_by me c (asks.Read place key) slot e h =
    ap (λ o. by_call (by_slot c (read_at me c place key.now) o))
    (beyond c.slots place (subst (λ n. length c.slots ≤ n) (sym (same_Some place slot e)) h))
lacks_by me c (asks.Prepare place) slot e h =
    ap (λ o. by_call (by_slot c (λ x. unless (prepare_fault me c x) (prepare_done me c place x)) o))
    (beyond c.slots place (subst (λ n. length c.slots ≤ n) (sym (same_Some place slot e)) h))
lacks_by me c (asks.Settle place) slot e h =
    ap (λ o. by_call (by_slot c (λ x. settle_by me c place x x.pursuit) o))
    (beyond c.slots place (subst (λ n. length c.slots ≤ n) (sym (same_Some place slot e)) h))
lacks_by me c (asks.Recover t signature) slot e h = absurd cc
lacks_by me c (asks.Invoke place) slot e h =
    ap (λ o. by_call (by_slot c (λ x. invoke_by me c x.pursuit) o))
    (beyond c.slots place (subst (λ n. length c.slots ≤ n) (sym (same_Some place slot e)) h))
lacks_by me c (asks.Frame frame) slot e h = absurd cc

pub ask_lacks : (me : ClientSelf) (c : ClientValue) (ask : Ask) (slot count : ℕ) → slot_named ask ≡ Some slot → count ≡ length c.slots →
    nat_le count slot ≡ true → answer_to me c ask ≡ Ok (quiet c)
ask_lacks me c ask slot count e same h =
    lacks_by me c ask slot e (subst (λ n. n ≤ slot) same (leb-true count slot h))

can_named : (held : Held) (ask : Ask) (slot : ℕ) → slot_named ask ≡ Some slot → slot < length held.slots.items → HasSignature ask →
    CanBeAsked held ask
can_named held (asks.Read place key) slot e h k = subst (λ n. n < length held.slots.items) (sym (same_Some place slot e)) h
can_named held (asks.Prepare place) slot e h k = subst (λ n. n < length held.slots.items) (sym (same_Some place slot e)) h
can_named held (asks.Settle place) slot e h k = subst (λ n. n < length held.slots.items) (sym (same_Some place slot e)) h
can_named held (asks.Recover t signature) slot e h k = k
can_named held (asks.Invoke place) slot e h k = subst (λ n. n < length held.slots.items) (sym (same_Some place slot e)) h
can_named held (asks.Frame frame) slot e h k = tt

pub ask_can : (held : Held) (ask : Ask) (slot count : ℕ) → slot_named ask ≡ Some slot → count ≡ length held.slots.items →
    nat_le count slot ≡ false → HasSignature ask → CanBeAsked held ask
ask_can held ask slot count e same h k = can_named held ask slot e (subst (λ n. slot < n) same (leb-false count slot h)) k

pub nameless_can : (held : Held) (ask : Ask) → slot_named ask ≡ None → HasSignature ask → CanBeAsked held ask
nameless_can held (asks.Read place key) e k = absurd cc
nameless_can held (asks.Prepare place) e k = absurd cc
nameless_can held (asks.Settle place) e k = absurd cc
nameless_can held (asks.Recover t signature) e k = k
nameless_can held (asks.Invoke place) e k = absurd cc
nameless_can held (asks.Frame frame) e k = tt

-- ---- slots that are held

pub here : {A : Type 0} (xs : List A) (i : ℕ) → i < length xs → (x : A) × (slice_get xs i ≡ Some x)
here [] i h = absurd (omega arith)
here (x ∷ xs) zero h = (x, refl)
here (x ∷ xs) (suc i) h = here xs i (omega arith)

pub there_is : (c : ClientValue) (slot count : ℕ) → count ≡ length c.slots → nat_le count slot ≡ false →
    (x : SlotValue) × (slice_get c.slots slot ≡ Some x)
there_is c slot count same h = here c.slots slot (subst (λ n. slot < n) same (leb-false count slot h))

pub nothing_there : (c : ClientValue) (slot count : ℕ) → count ≡ length c.slots → nat_le count slot ≡ true →
    slice_get c.slots slot ≡ None
nothing_there c slot count same h = beyond c.slots slot (subst (λ n. n ≤ slot) same (leb-true count slot h))
