use Rattle.std.proofs.Common.{ap, ◌∙◌}
use Rattle.certificates.specs.Refusals.{decision_of}
use Rattle.frame_views.specs.CarriedWalks.{pair_of}
use Rattle.run_sight.proofs.PairLaws.{adds_known, adds_unproven, adds_one, on_kept}
use Rattle.run_sight.proofs.certified.Certified.certify_pair.Goals as goal

pub returns-then-knows-clause-added : goal.returns-then-knows-clause-added
returns-then-knows-clause-added g c =
    adds_known (g.V.Verifier.accepted c.args.keys.now) c.args.cluster.now (pair_of c.args.pair) c.args.self.now c.id-id.result
    c.decision_of-decision.result c.knows.result (c.id-id.ensures)
    (c.decision_of-decision.ensures ∙ ap decision_of c.body.ensures.shows) c.knows.ensures c.if-knows.true

pub returns-then-not-is_proven-clause-added : goal.returns-then-not-is_proven-clause-added
returns-then-not-is_proven-clause-added g c =
    adds_unproven (g.V.Verifier.accepted c.args.keys.now) c.args.cluster.now (pair_of c.args.pair) c.args.self.now c.is_proven.result
    c.if-not-is_proven.true c.is_proven.ensures

pub returns-clause-added : goal.returns-clause-added
returns-clause-added g c =
    on_kept c.keep.result _ _ _
    (λ ds cs aborts.
    adds_one (g.V.Verifier.accepted c.args.keys.now) c.args.cluster.now (pair_of c.args.pair) c.args.self.now c.keep.new.self
    c.id-id.result c.decision_of-decision.result c.is_proven.result (c.id-id.ensures)
    (c.decision_of-decision.ensures ∙ ap decision_of c.body.ensures.shows) c.if-not-is_proven.false c.is_proven.ensures ds cs aborts)
    c.keep.ensures.decisions c.keep.ensures.commits c.keep.ensures.aborts
