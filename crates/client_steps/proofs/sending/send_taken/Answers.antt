use Rattle.std.proofs.Common.{◌≡◌, ◌∙◌, false, refl, sym, ap, subst}
use Rattle.std.specs.Prelude.{IfOk, None, Some}
use Rattle.client_recover.specs.Owned.{shown_outcome}
use Rattle.client_recover.specs.Pursuits.{PursuitDone, outcome, took}
use Rattle.client_steps.specs.declared.sending.Sending.{Sending}
use Rattle.client_steps.specs.Sending.{IsSending}
use Rattle.client_steps.proofs.SendingLaws.{nothing_sent, stands_took, take_ended, take_open, then_told, told}
use Rattle.client_steps.proofs.sending.send_taken.Goals as goal

pub returns-then-decided-clause-sends : goal.returns-then-decided-clause-sends
returns-then-decided-clause-sends c = λ p x was second h.
    let k = c.args.pursuit.now.cluster in
    nothing_sent c.nothing.result c.args.second _ p (take_ended k p x (sym was ∙ c.if-decided.true))
    c.nothing.ensures.messages c.nothing.ensures.signed c.nothing.ensures.starts second

pub returns-in_ok-out-in-Some-clause-sends : goal.returns-in_ok-out-in-Some-clause-sends
returns-in_ok-out-in-Some-clause-sends c = λ p x was second h.
    let u = c.args.pursuit.now in
    let k = u.cluster in
    let undecided = sym was ∙ c.if-decided.false in
    let stands = stands_took k u p x undecided h in
    let d = shown_outcome c.in-Some.told in
    let is : Some d ≡ outcome k (took p x) = c.in-Some.ensures.value (took p x) stands in
    let s : Sending = record { out = c.in_ok-out-in-Some.out; starts = false } in
    subst (IsSending s c.args.second) (sym (take_open k p x undecided ∙ ap (then_told k (took p x)) (sym is)))
    (told s k (took p x) u.transaction d.certificate
    d stands.transaction refl c.in_ok-out-in-Some.ensures.messages c.in_ok-out-in-Some.ensures.signed refl
    c.args.second second)

pub returns-in-None-clause-sends : goal.returns-in-None-clause-sends
returns-in-None-clause-sends c = λ p x was second h.
    let u = c.args.pursuit.now in
    let k = u.cluster in
    let undecided = sym was ∙ c.if-decided.false in
    let stands = stands_took k u p x undecided h in
    let none : outcome k (took p x) ≡ None = sym (c.in-None.ensures.value (took p x) stands) in
    subst (λ (d : PursuitDone). IfOk c.go_on.result (λ (s : Sending). IsSending s c.args.second d))
    (sym (take_open k p x undecided ∙ ap (then_told k (took p x)) none)) (c.go_on.ensures.sends (took p x) stands second none)
