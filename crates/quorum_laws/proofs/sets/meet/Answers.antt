use Rattle.quorum_laws.proofs.Masks.{meets, meets_many}
use Rattle.quorum_laws.proofs.sets.meet.Goals as goal

pub returns-clause-common : goal.returns-clause-common
returns-clause-common c = meets c.args.a c.args.b c.args.n c.numbers_below.result c.ranges.a.fits c.numbers_below.ensures

pub returns-clause-many : goal.returns-clause-many
returns-clause-many c = meets_many c.args.a c.args.b c.args.n _
    (meets c.args.a c.args.b c.args.n c.numbers_below.result c.ranges.a.fits c.numbers_below.ensures)
