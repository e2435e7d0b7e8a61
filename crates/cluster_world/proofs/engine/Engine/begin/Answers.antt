use Rattle.std.proofs.Common.{◌∙◌, sym}
use Rattle.std.specs.Prelude.{None, Some}
use Rattle.run_sight.specs.Sights.{sight_of}
use Rattle.cluster_world.proofs.BeginLaws.{begins_correct, begins_faulty, caller, comes_as, comes_same}
use Rattle.cluster_world.proofs.engine.Engine.begin.Goals as goal

pub returns-then-is_faulty : goal.returns-then-is_faulty
returns-then-is_faulty g c s st h =
    let faulty = sym (c.is_faulty.ensures s (sight_of st) h.stands.earlier h.stands.sight) ∙ c.if-is_faulty.true in
    comes_as g.V.Verifier g.S.Signer s st _ _ _ _ (begins_faulty s st c.args.client c.args.time faulty)
    (c.begin_faulty.ensures s st h faulty)

pub returns-in-Some : goal.returns-in-Some
returns-in-Some g c s st h =
    let correct = sym (c.is_faulty.ensures s (sight_of st) h.stands.earlier h.stands.sight) ∙ c.if-is_faulty.false in
    let there = c.in-Some.ensures.there in
    let own = caller g.V.Verifier g.S.Signer s c.args.self.now st c.in-Some.place h.stands there.0 in
    comes_as g.V.Verifier g.S.Signer s st _ _ _ _
    (begins_correct s st c.args.client c.args.time (Some own.0) correct (c.in-Some.ensures.somebody s st h.stands ∙ own.1))
    (c.begin_own.ensures s st own.0 h there.1 own.1)

pub returns-in-None : goal.returns-in-None
returns-in-None g c s st h =
    let correct = sym (c.is_faulty.ensures s (sight_of st) h.stands.earlier h.stands.sight) ∙ c.if-is_faulty.false in
    comes_same g.V.Verifier g.S.Signer s st c.args.self.now _
    (begins_correct s st c.args.client c.args.time None correct (c.place_of_client.ensures.nobody s st h.stands c.in-None.is)) h
