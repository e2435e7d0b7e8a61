-- One more is taken at each turn.
use Rattle.std.proofs.Common.{rules, ◌≡◌, ◌∷◌, [], Ok, sym, ap, ◌∙◌}
use Rattle.std.specs.Prelude.{◌||◌}
use Rattle.std.proofs.lemmas.Bool.{or_left}
use Rattle.client_link.proofs.TalkLaws.{taken_all, taking_more}
use Rattle.client_link.proofs.taking.take_all.Goals as goal

pub loop-envelope-preserved-then-sent : goal.loop-envelope-preserved-then-sent
loop-envelope-preserved-then-sent g c =
    let items : c.loop-envelope.given.items ≡ c.in-Some.envelope ∷ c.pop_front.new.self.items = search rules in
    taking_more _ _ _ _ _ _ _ _ c.pop_front.new.self.items c.in-Some.envelope _ _ _ c.loop-envelope.invariant items
    (c.if-sent.true ∙ sym (or_left _ c.in-Ok.more c.if-sent.true)) c.in-Ok.ensures.own c.in-Ok.ensures.seat c.in-Ok.ensures.slots
    c.in-Ok.ensures.asked (λ none. c.in-Ok.ensures.kept (ap Ok none)) (λ told t at. c.in-Ok.ensures.taken told t at)

pub loop-envelope-preserved : goal.loop-envelope-preserved
loop-envelope-preserved g c =
    let items : c.loop-envelope.given.items ≡ c.in-Some.envelope ∷ c.pop_front.new.self.items = search rules in
    taking_more _ _ _ _ _ _ _ _ c.pop_front.new.self.items c.in-Some.envelope _ _ _ c.loop-envelope.invariant items
    (sym (ap (λ b. b || c.in-Ok.more) c.if-sent.false)) c.in-Ok.ensures.own c.in-Ok.ensures.seat c.in-Ok.ensures.slots c.in-Ok.ensures.asked
    (λ none. c.in-Ok.ensures.kept (ap Ok none)) (λ told t at. c.in-Ok.ensures.taken told t at)

pub returns-clause-taken : goal.returns-clause-taken
returns-clause-taken g c told t at =
    let none : c.loop-envelope.given.items ≡ [] = search rules in
    taken_all _ _ _ _ _ _ _ told t c.loop-envelope.invariant none at
