use Rattle.std.proofs.Common.{rules, ◌≡◌, ◌∙◌, false, refl, sym, ap, subst}
use Rattle.std.specs.Prelude.{is_some, ◌==◌}
use Rattle.client_core.specs.Calls.{pending}
use Rattle.client_core.specs.Showing.{slot_value}
use Rattle.client_steps.specs.Refusals.{RefusesCall}
use Rattle.client_core.proofs.ShowingLaws.{formed_same}
use Rattle.client_core.proofs.StepLaws.{chain_same, nothing_law}
use Rattle.client_core.proofs.held.Slot.refuse_prepare.Goals as goal

pub returns-in-Ok-clause-exact : goal.returns-in-Ok-clause-exact
returns-in-Ok-clause-exact c = λ me v reads p keeps formed cluster left.
    let x = c.args.self.now in
    let closed : is_some x.formed ≡ false = search rules in
    let none = ap (λ k. pending k (slot_value x reads p)) cluster ∙ c.in-Ok.ensures reads p keeps in
    let nothing = c.has_nothing.ensures ∙ nothing_law x x.reads.items reads keeps in
    subst (RefusesCall c.refuse_rest.result)
    (sym (chain_same (sym (formed_same x.formed p formed) ∙ closed) none (sym nothing) (ap (λ n. n == 0) left)))
    c.refuse_rest.ensures.exact

pub returns-in-Err-clause-exact : goal.returns-in-Err-clause-exact
returns-in-Err-clause-exact c = λ me v reads p keeps formed cluster left wanting.
    let x = c.args.self.now in
    let closed : is_some x.formed ≡ false = search rules in
    let some = ap (λ k. pending k (slot_value x reads p)) cluster ∙ c.in-Err.ensures reads p keeps wanting in
    chain_same (sym (formed_same x.formed p formed) ∙ closed) some refl refl
