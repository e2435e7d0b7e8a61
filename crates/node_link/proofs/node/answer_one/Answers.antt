-- An envelope whose frame wasn't handled, or whose answer was written only in part.
use Rattle.std.proofs.Common.{ℕ, List, subst, arith}
use Rattle.basil_types.specs.Links.{WrotePrefix}
use Rattle.node_link.proofs.AnsweringLaws.{any_err, at_err, not_handled, handled_one}
use Rattle.node_link.proofs.node.answer_one.Goals as goal

pub returns-in_err-answer-clause-some : goal.returns-in_err-answer-clause-some
returns-in_err-answer-clause-some g c state s at =
    at_err _ _ _ c.from_residual.ensures.1
    (not_handled _ _ _ _ _ state s _ _ _ (omega arith) (c.in_err-answer.ensures.as_before s.book at.book) at.moments c.now-now.ensures.ticks
    at.links)

pub returns-clause-some : goal.returns-clause-some
returns-clause-some g c state s at =
    any_err _ _
    (λ fail. handled_one _ _ _ _ _ _ state s _ _ _ _ fail (omega arith) at.moments c.now-now.ensures.ticks at.links
    (c.in_ok-answer.ensures.handled s.book at.book)
    (subst (λ (bytes : List ℕ). WrotePrefix (g.L.Links.told c.args.links.now) (g.L.Links.told c.write.new.self) bytes)
    c.deref.ensures.value c.write.ensures.prefix))
