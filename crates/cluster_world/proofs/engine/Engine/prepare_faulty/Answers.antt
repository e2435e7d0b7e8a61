use Rattle.std.proofs.Common.{◌≡◌, ◌∙◌, None, ap, subst}
use Rattle.basil_types.specs.declared.party.Party.TheVariants.{Client}
use Rattle.cluster_run.specs.States.{BegunValue}
use Rattle.faulty_parties.specs.Lies.{Says}
use Rattle.faulty_parties.specs.Unsaid.{unsaid_first}
use Rattle.run_begun.specs.Adding.{forming_fault}
use Rattle.run_sight.specs.Sights.{sight_of}
use Rattle.cluster_world.specs.Lying.{CanSay, built_of}
use Rattle.cluster_world.proofs.FirstLaws.{begun_is, begun_isnt, prepare_exhausted, prepare_goes}
use Rattle.cluster_world.proofs.engine.Engine.prepare_faulty.Goals as goal

pub returns-in_err-size-clause-own : goal.returns-in_err-size-clause-own
returns-in_err-size-clause-own g c = λ s st b h at none.
    let a = c.args in
    let same = begun_is s a.self.now st a.tx c.in-Some.begun.now b h.stands c.in-Some.ensures.there at in
    let own = ap Client (c.client.ensures.exact ∙ ap (λ (x : BegunValue). x.client) same) in
    let formable = subst (λ x. forming_fault x ≡ None) same c.in_ok-t.ensures.formed.can in
    prepare_exhausted g.V.Verifier g.S.Signer s st a.tx b a.self.now h at none c.forming_is_refused.ensures (Client c.client.result) own
    c.in_err-size.field-0.0 c.from_residual-in_err-size.result c.from_residual-in_err-size.ensures.1 formable
    (c.in_err-size.ensures.as_run s st h.stands)

pub returns-clause-own : goal.returns-clause-own
returns-clause-own g c = λ s st b h at none.
    let a = c.args in
    let same = begun_is s a.self.now st a.tx c.in-Some.begun.now b h.stands c.in-Some.ensures.there at in
    let own = ap Client (c.client.ensures.exact ∙ ap (λ (x : BegunValue). x.client) same) in
    let formable = subst (λ x. forming_fault x ≡ None) same c.in_ok-t.ensures.formed.can in
    let can = c.in_ok-size.ensures.as_run s st h.stands in
    let is = c.in_ok-t.ensures.formed.is ∙ ap built_of same in
    prepare_goes g.V.Verifier g.S.Signer s st a.tx b a.self.now h at none c.forming_is_refused.ensures (Client c.client.result) own
    c.say_first.new.self c.say_first.result formable can.left
    (c.say_first.ensures s st b h at own is
    (subst (λ x. Says (unsaid_first x (built_of b)) c.in_ok-lie.lie)
    (c.cluster.ensures s (sight_of st) h.stands.earlier h.stands.sight)
    (subst (λ t. Says (unsaid_first c.cluster.result.now t) c.in_ok-lie.lie) (c.view.ensures.value ∙ is) c.in_ok-lie.ensures.says))
    (subst (CanSay s st (Client c.client.result)) c.in_ok-size.ensures.own.size can))

pub returns-in_err-size-clause-unbegun : goal.returns-in_err-size-clause-unbegun
returns-in_err-size-clause-unbegun g c = λ s st h none.
    absurd (begun_isnt s c.args.self.now st c.args.tx c.in-Some.begun.now h.stands c.in-Some.ensures.there none)

pub returns-clause-unbegun : goal.returns-clause-unbegun
returns-clause-unbegun g c = λ s st h none.
    absurd (begun_isnt s c.args.self.now st c.args.tx c.in-Some.begun.now h.stands c.in-Some.ensures.there none)

pub returns-in_err-t-clause-unbegun : goal.returns-in_err-t-clause-unbegun
returns-in_err-t-clause-unbegun g c = λ s st h none.
    absurd (begun_isnt s c.args.self.now st c.args.tx c.in-Some.begun.now h.stands c.in-Some.ensures.there none)

pub returns-in_err-lie-clause-unbegun : goal.returns-in_err-lie-clause-unbegun
returns-in_err-lie-clause-unbegun g c = λ s st h none.
    absurd (begun_isnt s c.args.self.now st c.args.tx c.in-Some.begun.now h.stands c.in-Some.ensures.there none)

pub returns-then-is_some-clause-unbegun : goal.returns-then-is_some-clause-unbegun
returns-then-is_some-clause-unbegun g c = λ s st h none.
    absurd (begun_isnt s c.args.self.now st c.args.tx c.in-Some.begun.now h.stands c.in-Some.ensures.there none)
