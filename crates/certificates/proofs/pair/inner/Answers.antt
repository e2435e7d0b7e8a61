use Rattle.certificates.proofs.PairLaws.{inner_good, inner_bad}
use Rattle.certificates.proofs.pair.inner.Goals as goal

pub returns-in-Ok-clause-value : goal.returns-in-Ok-clause-value
returns-in-Ok-clause-value c =
    inner_good c.args.outer.now.body _ _ _ c.in-ConflictAbort.other
    c.in-ConflictAbort.proof c.of.result c.in-ConflictAbort.is c.requires c.in-Ok.ensures.good c.of.ensures.value

pub returns-in-Err-clause-value : goal.returns-in-Err-clause-value
returns-in-Err-clause-value c = inner_bad c.args.outer.now.body
    _ _ _ c.in-ConflictAbort.other c.in-ConflictAbort.proof c.in-Err.field-0 c.in-ConflictAbort.is c.in-Err.ensures.refused
