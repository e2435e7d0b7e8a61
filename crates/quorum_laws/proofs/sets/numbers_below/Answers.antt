use Rattle.quorum_laws.proofs.Masks.{below_few, below_all}
use Rattle.quorum_laws.proofs.sets.numbers_below.Goals as goal

pub returns-then-n-lt32 : goal.returns-then-n-lt32
returns-then-n-lt32 c = λ i. below_few c.args.n i c.if-n-lt32.true

pub returns-else-n-lt32 : goal.returns-else-n-lt32
returns-else-n-lt32 c = λ i. below_all c.args.n i c.if-n-lt32.false
