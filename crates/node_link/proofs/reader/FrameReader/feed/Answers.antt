-- A piece for a reader that has ended, one that is taken whole, and one that passes the limit.
use Rattle.node_link.proofs.StandingLaws.{fed_nothing, fed_whole, fed_in_part}
use Rattle.node_link.proofs.reader.FrameReader.feed.Goals as goal

pub returns-then-is_some-clause-fed : goal.returns-then-is_some-clause-fed
returns-then-is_some-clause-fed c bytes taken s =
    fed_nothing _ _ bytes _ taken _ c.self.view_is c.is_some.ensures c.if-is_some.true s

pub returns-then-count-piece-clause-fed : goal.returns-then-count-piece-clause-fed
returns-then-count-piece-clause-fed c bytes taken s =
    rw c.cut_off.ensures
    (fed_in_part _ _ _ _ bytes _ taken _ _ c.self.view_is c.self-2.view_is c.is_some.ensures c.if-is_some.false
    c.min-count.ensures c.if-count-piece.true c.in_ok-take_in.ensures.adds s)

pub returns-else-count-piece-clause-fed : goal.returns-else-count-piece-clause-fed
returns-else-count-piece-clause-fed c bytes taken s =
    fed_whole _ _ _ _ bytes _ taken _ _ c.self.view_is c.self-2.view_is c.is_some.ensures c.if-is_some.false
    c.min-count.ensures c.if-count-piece.false c.in_ok-take_in.ensures.adds s
