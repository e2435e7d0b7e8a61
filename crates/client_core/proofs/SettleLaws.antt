-- What the plan of a second stage does.
use Rattle.std.proofs.Common.{◌≡◌, ◌∙◌, ℕ, true, false, cond, List, [], map, refl, sym, ap, subst}
use Rattle.std.specs.Prelude.{Option, Some, None, ◌||◌, is_some, option_map, slice_get, slice_set}
use Rattle.std.specs.Option.{option_map_or}
use Rattle.std.proofs.lemmas.List.{append-nil}
use Rattle.basil_types.specs.declared.outbox.Outbox.{Outbox}
use Rattle.basil_types.specs.Setting.{Setting}
use Rattle.node_steps.specs.Framed.{framed}
use Rattle.client_recover.specs.Certifying.{settled}
use Rattle.client_recover.specs.Pursuits.{outcome, second_stage, settle, start_second, still, to_log_shard}
use Rattle.client_recover.specs.Taken.{LogsValue, PursuitValue}
use Rattle.client_core.specs.declared.held.Held.{Held}
use Rattle.client_core.specs.declared.work.ClientPlan.{ClientPlan}
use Rattle.client_core.specs.declared.work.Work.TheVariants.{Nothing, Start}
use Rattle.client_core.specs.Calls.{by_slot, call_settle, pursuit_done, settle_by}
use Rattle.client_core.specs.Clients.{ClientSelf, ClientValue, SlotValue, quiet}
use Rattle.client_core.specs.Showing.{ShowsHeld}
use Rattle.client_core.specs.Slots.{with_pursuit, with_slot}
use Rattle.client_core.specs.Works.{IsPlanOf, WillDo, starts}
use Rattle.client_core.proofs.HeldLaws.{set_own}
use Rattle.client_core.proofs.PlanLaws.{does_so}
use Rattle.client_core.proofs.ReadingLaws.{nothing_done}

-- ---- the answer

pub settle_answer : (me : ClientSelf) (v : ClientValue) (i : ℕ) (s : SlotValue) (p : Option PursuitValue)
    → slice_get v.slots i ≡ Some s → s.pursuit ≡ p → call_settle me v i ≡ settle_by me v i s p
settle_answer me v i s p at is =
    ap (by_slot v (λ (t : SlotValue). settle_by me v i t t.pursuit)) at ∙ ap (settle_by me v i s) is

-- ---- whether it starts

module _ (c : Setting) (p : PursuitValue) where
  pub settle_over : (is_some (outcome c p) || p.second) ≡ true → settle c p ≡ still p
  settle_over over = ap (λ b. cond b (still p) (option_map_or (start_second c p) (settled c p.transaction p.taken) (still p))) over

  pub settle_none : (is_some (outcome c p) || p.second) ≡ false → settled c p.transaction p.taken ≡ None → settle c p ≡ still p
  settle_none going none =
      ap (λ b. cond b (still p) (option_map_or (start_second c p) (settled c p.transaction p.taken) (still p))) going
      ∙ ap (λ o. option_map_or (start_second c p) o (still p)) none

  pub settle_starts : (l : LogsValue) → (is_some (outcome c p) || p.second) ≡ false → settled c p.transaction p.taken ≡ Some l
      → settle c p ≡ start_second c p l
  settle_starts l going some =
      ap (λ b. cond b (still p) (option_map_or (start_second c p) (settled c p.transaction p.taken) (still p))) going
      ∙ ap (λ o. option_map_or (start_second c p) o (still p)) some

-- ---- what it does

module _ (me : ClientSelf) (held : Held) (v : ClientValue) (i : ℕ) (s : SlotValue) (p : PursuitValue) (h : ShowsHeld held v)
    (at : slice_get v.slots i ≡ Some s) (is : s.pursuit ≡ Some p) (plan : ClientPlan) where
  same_client : pursuit_done v i s (still p) ≡ quiet v
  same_client =
      let same : with_pursuit s p ≡ s =
      ap (λ (o : Option PursuitValue). let t : SlotValue = record s { pursuit = o } in t) (sym is) in
      ap (λ (l : List SlotValue). let c : ClientValue = record v { slots = l } in quiet c)
      (ap (slice_set v.slots i) same ∙ set_own v.slots i s at)

  pub still_planned : settle me.cluster p ≡ still p → plan.work ≡ Nothing → plan.out.messages.items ≡ []
      → WillDo me.signing held v plan (pursuit_done v i s (settle me.cluster p))
  still_planned stays work none =
      subst (WillDo me.signing held v plan) (sym (ap (pursuit_done v i s) stays ∙ same_client))
      (nothing_done me.signing held v plan work none h)

  pub start_planned : (l : LogsValue) (out : Outbox) → settle me.cluster p ≡ start_second me.cluster p l
      → IsPlanOf 0 (Start i) out plan
      → out.messages.items ≡ map framed (to_log_shard me.cluster p.transaction (second_stage p l))
      → WillDo me.signing held v plan (pursuit_done v i s (settle me.cluster p))
  start_planned l out begins plan_is messages =
      let d = pursuit_done v i s (start_second me.cluster p l) in
      let changed : d.client ≡ with_slot v i (starts s) =
      ap (λ (o : Option PursuitValue).
      with_slot v i (record s { pursuit = option_map (λ (q : PursuitValue). record q { second = true }) o })) (sym is) in
      subst (WillDo me.signing held v plan) (sym (ap (pursuit_done v i s) begins))
      (does_so 0 (Start i) out plan plan_is me.signing held v d (h, (s, at, changed)) refl
      (append-nil out.messages.items ∙ messages))
