use Rattle.std.proofs.Common.{sym, ap}
use Rattle.std.specs.Option.{option_and_then}
use Rattle.txn_table.specs.Released.{released_vote}
use Rattle.txn_table.proofs.Reading.{past}
use Rattle.txn_table.proofs.table.Table.vote_at.Goals as goal

pub returns-else-holds : goal.returns-else-holds
returns-else-holds c =
    sym (ap (option_and_then (released_vote c.args.home.now c.args.supposed.now c.args.self.now.entries c.args.at))
    (past c.args.self.now.entries c.args.at (c.holds.ensures.past c.if-holds.false)))
