use Rattle.std.proofs.Common.{◌≡◌, ◌∙◌, subst, sym}
use Rattle.schedule_replay.specs.Reasons.{misnames}
use Rattle.schedule_replay.proofs.ReasonLaws.{claim_misnamed}
use Rattle.schedule_replay.proofs.course.Course.misnames.Goals as goal

pub returns-else-not-is_begun-clause-exact : goal.returns-else-not-is_begun-clause-exact
returns-else-not-is_begun-clause-exact c = λ r h.
    subst (λ l. c.has_no_writer.result ≡ misnames r l) (sym c.in-Claim.is)
    (c.has_no_writer.ensures r h
    ∙ claim_misnamed r c.in-Claim.name c.in-Claim.key c.in-Claim.writer c.is_begun-in-Claim.result
    (c.is_begun-in-Claim.ensures.exact r h) c.if-not-is_begun.false)
