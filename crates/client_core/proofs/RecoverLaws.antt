-- What the plan of a recovery does.
use Rattle.std.proofs.Common.{◌≡◌, ◌∙◌, ℕ, Bool, false, List, [], map, refl, sym, ap, subst}
use Rattle.std.specs.Prelude.{Option, Some, None, Ok, option_and_then, option_map, slice_get, length}
use Rattle.std.specs.Option.{option_map_or}
use Rattle.std.proofs.lemmas.List.{append-nil}
use Rattle.basil_types.specs.declared.outbox.Outbox.{Outbox}
use Rattle.basil_types.specs.declared.transaction.parts.WritePart.{WritePart}
use Rattle.basil_types.specs.Transaction.{TransactionValue, id}
use Rattle.txn_meta.specs.Form.{form_fault}
use Rattle.node_steps.specs.Framed.{framed}
use Rattle.node_steps.specs.Refusing.{unless}
use Rattle.client_recover.specs.Owned.{unstarted}
use Rattle.client_recover.specs.Taken.{PursuitValue}
use Rattle.client_steps.specs.declared.fault.CallFault.TheVariants.{BadTransaction}
use Rattle.client_core.specs.declared.held.Formed.{Formed}
use Rattle.client_core.specs.declared.held.Held.{Held}
use Rattle.client_core.specs.declared.held.Slot.{Slot}
use Rattle.client_core.specs.declared.work.ClientPlan.{ClientPlan}
use Rattle.client_core.specs.declared.work.Work.TheVariants.{Nothing, Hold}
use Rattle.client_core.specs.Calls.{call_recover, recover_by, recover_held, recovered_at, recovered_slot}
use Rattle.client_core.specs.Clients.{ClientSelf, ClientValue, SlotValue, quiet}
use Rattle.client_core.specs.Recovering.{again_done, hold_done, question_done}
use Rattle.client_core.specs.Kept.{shown_read}
use Rattle.client_core.specs.Showing.{ShowsFormed, ShowsHeld, ShowsPursuit, ShowsSlot}
use Rattle.client_core.specs.Slots.{slot_of_id}
use Rattle.client_core.specs.Works.{IsPlanOf, WillDo}
use Rattle.client_core.proofs.PlanLaws.{does_so}
use Rattle.client_core.proofs.ReadingLaws.{nothing_done}
use Rattle.client_core.proofs.ShowingLaws.{shown_signature, shown_transaction, slots_at}

-- ---- the answer

pub recover_answer : (me : ClientSelf) (v : ClientValue) (t : TransactionValue) (signature : List ℕ) (place : Option ℕ)
    → form_fault t ≡ None → slot_of_id v (id t) ≡ place
    → call_recover me v t signature ≡ Ok (recover_by me v t signature place)
recover_answer me v t signature place good at =
    ap (λ f. unless (option_map BadTransaction f) (recover_by me v t signature (slot_of_id v (id t)))) good
    ∙ ap (λ o. Ok (recover_by me v t signature o)) at

pub recovered_held : (v : ClientValue) (t : TransactionValue) (place : Option ℕ) → slot_of_id v (id t) ≡ place
    → option_map_or (λ (i : ℕ). i) place (length v.slots) ≡ recovered_at v t
recovered_held v t place at = ap (λ o. option_map_or (λ (i : ℕ). i) o (length v.slots)) (sym at)

-- ---- a transaction that is held

held_question : (me : ClientSelf) (v : ClientValue) (f : Formed) (p : Option PursuitValue) (t : TransactionValue)
    (signature : List ℕ) → ShowsFormed (Some f) p → t ≡ f.pursuit.transaction → signature ≡ f.pursuit.signature
    → recover_held me v p ≡ question_done me v t signature
held_question me v f None t signature h a b = absurd h
held_question me v f (Some p) t signature h a b =
    ap (λ u. question_done me v u p.signature) (sym (a ∙ shown_transaction f p h))
    ∙ ap (question_done me v t) (sym (b ∙ shown_signature f p h))

not_held : (me : ClientSelf) (v : ClientValue) (p : Option PursuitValue) → ShowsFormed None p
    → recover_held me v p ≡ quiet v
not_held me v None h = refl
not_held me v (Some p) h = absurd h

module _ (me : ClientSelf) (held : Held) (v : ClientValue) (place : ℕ) (x : Slot) (h : ShowsHeld held v)
    (at : slice_get held.slots.items place ≡ Some x) (plan : ClientPlan) where
  pub again_planned : (out : Outbox) (f : Formed) (t : TransactionValue) (signature : List ℕ) → x.formed ≡ Some f
      → t ≡ f.pursuit.transaction → signature ≡ f.pursuit.signature → IsPlanOf 0 Nothing out plan
      → out.messages.items ≡ map framed (question_done me v t signature).sent
      → WillDo me.signing held v plan (again_done me v place)
  again_planned out f t signature formed a b is messages =
      let found = slots_at held.slots.items v.slots place x h.slots at in
      let p = (found.0).pursuit in
      let shows : ShowsFormed (Some f) p = subst (λ (o : Option Formed). ShowsFormed o p) formed (found.2).formed in
      let same : again_done me v place ≡ question_done me v t signature =
      ap (λ o. recover_held me v (option_and_then (λ (s : SlotValue). s.pursuit) o)) found.1
      ∙ held_question me v f p t signature shows a b in
      subst (WillDo me.signing held v plan) (sym same)
      (does_so 0 Nothing out plan is me.signing held v (question_done me v t signature) (h, refl) refl
      (append-nil out.messages.items ∙ messages))

  pub never_planned : x.formed ≡ None → plan.work ≡ Nothing → plan.out.messages.items ≡ []
      → WillDo me.signing held v plan (again_done me v place)
  never_planned formed work none =
      let found = slots_at held.slots.items v.slots place x h.slots at in
      let p = (found.0).pursuit in
      let same : again_done me v place ≡ quiet v =
      ap (λ o. recover_held me v (option_and_then (λ (s : SlotValue). s.pursuit) o)) found.1
      ∙ not_held me v p (subst (λ (o : Option Formed). ShowsFormed o p) formed (found.2).formed) in
      subst (WillDo me.signing held v plan) (sym same) (nothing_done me.signing held v plan work none h)

-- ---- a transaction that isn't held

pub hold_planned : (me : ClientSelf) (held : Held) (v : ClientValue) (recovered : Slot) (out : Outbox) (plan : ClientPlan)
    (t : TransactionValue) (signature : List ℕ) → ShowsHeld held v → ShowsSlot recovered (recovered_slot t signature)
    → IsPlanOf 0 (Hold recovered) out plan → out.messages.items ≡ map framed (question_done me v t signature).sent
    → WillDo me.signing held v plan (hold_done me v t signature)
hold_planned me held v recovered out plan t signature h shows is messages =
    does_so 0 (Hold recovered) out plan is me.signing held v (hold_done me v t signature)
    (h, (recovered_slot t signature, shows, refl)) refl (append-nil out.messages.items ∙ messages)

pub recovered_shows : (slot : Slot) (t u : TransactionValue) (signature w : List ℕ) (f : Formed) → slot.begun ≡ false
    → slot.time ≡ t.time → slot.reads.items ≡ [] → slot.writes.items ≡ [] → slot.formed ≡ Some f → u ≡ t → w ≡ signature
    → ShowsPursuit f (unstarted u w) → ShowsSlot slot (recovered_slot t signature)
recovered_shows slot t u signature w f begun time reads writes formed same_t same_signature shows =
    let p = unstarted t signature in
    let stands : ShowsPursuit f p =
    subst (λ x. ShowsPursuit f (unstarted t x)) same_signature (subst (λ x. ShowsPursuit f (unstarted x w)) same_t shows) in
    let made : Bool → ℕ → List WritePart → SlotValue =
    λ b n l. record { begun = b; time = n; reads = []; writes = l; pursuit = Some p } in
    record {
      value =
          ap (λ b. made b t.time []) (sym begun) ∙ ap (λ n. made slot.begun n []) (sym time)
          ∙ ap (made slot.begun slot.time) (sym writes);
      reads = ap (map shown_read) reads;
      formed = subst (λ (o : Option Formed). ShowsFormed o (Some p)) (sym formed) stands;
    }
