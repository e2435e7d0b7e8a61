use Rattle.std.proofs.Common.{sym, ap, ◌∙◌}
use Rattle.certificates.specs.Refusals.{decision_of}
use Rattle.frame_views.specs.CarriedWalks.{pair_of}
use Rattle.run_sight.proofs.ProvenLaws.{tested_is, unformed}
use Rattle.run_sight.proofs.proven.is_proven.Goals as goal

pub returns-in-Commit : goal.returns-in-Commit
returns-in-Commit g c s own =
    tested_is s (g.V.Verifier.accepted c.args.keys.now) c.args.cluster.now (pair_of c.args.pair.now) own c.check_form.result
    c.check_commit.result _ c.is_ok.result c.check_form.ensures.good (sym c.is_err.ensures.value ∙ c.if-is_err.false)
    (sym c.in-Commit.is ∙ c.decision_of.ensures ∙ ap decision_of c.body.ensures.shows) c.check_commit.ensures.exact c.is_ok.ensures.value

pub returns-in-Abort : goal.returns-in-Abort
returns-in-Abort g c s own =
    tested_is s (g.V.Verifier.accepted c.args.keys.now) c.args.cluster.now (pair_of c.args.pair.now) own c.check_form.result
    c.check_abort.result _ c.is_ok-in-Abort.result c.check_form.ensures.good (sym c.is_err.ensures.value ∙ c.if-is_err.false)
    (sym c.in-Abort.is ∙ c.decision_of.ensures ∙ ap decision_of c.body.ensures.shows) c.check_abort.ensures.exact
    c.is_ok-in-Abort.ensures.value

pub returns-then-is_err : goal.returns-then-is_err
returns-then-is_err g c s own =
    unformed s (g.V.Verifier.accepted c.args.keys.now) c.args.cluster.now (pair_of c.args.pair.now) own c.check_form.result
    c.check_form.ensures.refused (sym c.is_err.ensures.value ∙ c.if-is_err.true)
