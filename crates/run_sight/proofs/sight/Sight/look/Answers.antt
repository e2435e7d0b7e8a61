use Rattle.run_sight.specs.Sights.{sight_of}
use Rattle.run_sight.proofs.AgainLaws.{sees_again}
use Rattle.run_sight.proofs.SightLaws.{on_ok}
use Rattle.run_sight.proofs.sight.Sight.look.Goals as goal

pub returns-then-was_seen-clause-seen : goal.returns-then-was_seen-clause-seen
returns-then-was_seen-clause-seen g c s st earlier h was =
    sees_again g.V.Verifier c.see_nothing.new.self s st (c.see_nothing.ensures s (sight_of st) earlier h) c.args.frame.now
    c.seen_shows_nothing.ensures (was c.if-was_seen.true)

pub returns-clause-seen : goal.returns-clause-seen
returns-clause-seen g c = on_ok _ _ c.see.result (λ follows s st earlier h was. follows s st earlier h) c.see.ensures.seen
