-- What the plan of an invoke does.
use Rattle.std.proofs.Common.{◌≡◌, ◌∙◌, ℕ, Bool, true, false, cond, map, refl, ap}
use Rattle.std.specs.Prelude.{Option, Some, None, Ok, [], ◌==◌, is_some, length, slice_get}
use Rattle.std.proofs.lemmas.List.{append-nil}
use Rattle.std.proofs.lemmas.Option.{same_Some}
use Rattle.basil_types.specs.declared.outbox.Outbox.{Outbox}
use Rattle.basil_types.specs.Setting.{Setting}
use Rattle.basil_types.specs.Transaction.{TransactionValue}
use Rattle.frame_views.specs.Values.{MessageValue}
use Rattle.node_steps.specs.Framed.{framed}
use Rattle.node_steps.specs.Refusing.{unless, when}
use Rattle.client_recover.specs.Counting.{replies_of}
use Rattle.client_recover.specs.Pursuits.{invoke_message, outcome, to_log_shard}
use Rattle.client_recover.specs.Taken.{PursuitValue}
use Rattle.client_steps.specs.declared.fault.CallFault.TheVariants.{NothingLogged}
use Rattle.client_core.specs.declared.held.Held.{Held}
use Rattle.client_core.specs.declared.work.ClientPlan.{ClientPlan}
use Rattle.client_core.specs.declared.work.Work.TheVariants.{Nothing}
use Rattle.client_core.specs.Calls.{by_slot, call_invoke, invoke_by, invoke_done, invoke_fault}
use Rattle.client_core.specs.Clients.{ClientSelf, ClientValue, SlotValue, quiet}
use Rattle.client_core.specs.Invoking.{SendsInvoke}
use Rattle.client_core.specs.Showing.{ShowsHeld}
use Rattle.client_core.specs.Works.{IsPlanOf, WillDo}
use Rattle.client_core.proofs.PlanLaws.{does_so}

pub invoke_answer : (me : ClientSelf) (v : ClientValue) (i : ℕ) (s : SlotValue) (p : Option PursuitValue)
    → slice_get v.slots i ≡ Some s → s.pursuit ≡ p → call_invoke me v i ≡ invoke_by me v p
invoke_answer me v i s p at is =
    ap (by_slot v (λ (t : SlotValue). invoke_by me v t.pursuit)) at ∙ ap (invoke_by me v) is

module _ (me : ClientSelf) (v : ClientValue) (p : PursuitValue) where
  pub invoke_over : is_some (outcome me.cluster p) ≡ true → invoke_by me v (Some p) ≡ Ok (quiet v)
  invoke_over over = ap (λ b. cond b (Ok (quiet v)) (unless (invoke_fault me p) (invoke_done me v p))) over

  pub invoke_logged : (none : Bool) → is_some (outcome me.cluster p) ≡ false → (length (replies_of p.taken) == 0) ≡ none
      → invoke_by me v (Some p) ≡ unless (when none NothingLogged) (invoke_done me v p)
  invoke_logged none going is =
      ap (λ b. cond b (Ok (quiet v)) (unless (invoke_fault me p) (invoke_done me v p))) going
      ∙ ap (λ b. unless (when b NothingLogged) (invoke_done me v p)) is

pub invoke_planned : (me : ClientSelf) (held : Held) (v : ClientValue) (p : PursuitValue) (out : Outbox) (plan : ClientPlan)
    → ShowsHeld held v → IsPlanOf 0 Nothing out plan → out.messages.items ≡ map framed (invoke_done me v p).sent
    → WillDo me.signing held v plan (invoke_done me v p)
invoke_planned me held v p out plan h is messages =
    does_so 0 Nothing out plan is me.signing held v (invoke_done me v p) (h, refl) refl
    (append-nil out.messages.items ∙ messages)

-- ---- what is sent

pub invoke_some : (none : Bool) (m said : MessageValue) → Some m ≡ cond none None (Some said) → (none ≡ false) × (m ≡ said)
invoke_some true m said e = absurd cc
invoke_some false m said e = (refl, same_Some m said e)

pub invoke_none : (none : Bool) (said : MessageValue) → None ≡ cond none None (Some said) → none ≡ true
invoke_none true said e = refl
invoke_none false said e = absurd cc

pub sends_invoke : (c : Setting) (p : PursuitValue) (t : TransactionValue) (m : MessageValue) (out : Outbox) → t ≡ p.transaction
    → Some m ≡ cond (length (replies_of p.taken) == 0) None (Some (invoke_message c p))
    → out.messages.items ≡ map framed (to_log_shard c t m) → out.signed.items ≡ [] → SendsInvoke c p (Some out)
sends_invoke c p t m out same is messages signed =
    let some = invoke_some (length (replies_of p.taken) == 0) m (invoke_message c p) is in (
      some.0,
      messages ∙ ap (λ u. map framed (to_log_shard c u m)) same ∙ ap (λ n. map framed (to_log_shard c p.transaction n)) some.1,
      signed,
    )
