use Rattle.std.proofs.Common.{◌∙◌, Bool, true, refl, sym, subst}
use Rattle.client_recover.specs.Pursuits.{go_on}
use Rattle.client_steps.specs.declared.sending.Sending.{Sending}
use Rattle.client_steps.specs.Sending.{IsSending, SendsSecond}
use Rattle.client_steps.proofs.SendingLaws.{nothing_sent, nothing_settled, second_starts, started_before, votes_missing}
use Rattle.client_steps.proofs.sending.go_on.Goals as goal

pub returns-then-second-clause-sends : goal.returns-then-second-clause-sends
returns-then-second-clause-sends c = λ p h same none.
    let k = c.args.pursuit.now.cluster in
    nothing_sent c.nothing.result c.args.second _ p (started_before k p none (sym same ∙ c.if-second.true))
    c.nothing.ensures.messages c.nothing.ensures.signed c.nothing.ensures.starts same

pub returns-then-not-all_voted-clause-sends : goal.returns-then-not-all_voted-clause-sends
returns-then-not-all_voted-clause-sends c = λ p h same none.
    let k = c.args.pursuit.now.cluster in
    nothing_sent c.nothing-then-not-all_voted.result c.args.second _ p
    (votes_missing k p none (sym (c.all_voted.ensures p h) ∙ c.if-not-all_voted.true))
    c.nothing-then-not-all_voted.ensures.messages
    c.nothing-then-not-all_voted.ensures.signed c.nothing-then-not-all_voted.ensures.starts same

pub returns-in-Some-clause-sends : goal.returns-in-Some-clause-sends
returns-in-Some-clause-sends c = λ p h same none.
    let k = c.args.pursuit.now.cluster in
    let s : Sending = record { out = c.in-Some.out; starts = true } in
    subst (λ (b : Bool). IsSending s b (go_on k p)) (sym same)
    (second_starts k p none s c.in-Some.out (sym same ∙ c.if-second.false) (sym (c.all_voted.ensures p h) ∙ c.if-not-all_voted.false)
    (subst (SendsSecond k p) c.in-Some.is (c.in_ok-frames.ensures.sends p h)) refl refl)

pub returns-in-None-clause-sends : goal.returns-in-None-clause-sends
returns-in-None-clause-sends c = λ p h same none.
    let k = c.args.pursuit.now.cluster in
    nothing_sent c.nothing-in-None.result c.args.second _ p
    (nothing_settled k p none (sym same ∙ c.if-second.false) (sym (c.all_voted.ensures p h) ∙ c.if-not-all_voted.false)
    (subst (SendsSecond k p) c.in-None.is (c.in_ok-frames.ensures.sends p h)))
    c.nothing-in-None.ensures.messages c.nothing-in-None.ensures.signed c.nothing-in-None.ensures.starts same
