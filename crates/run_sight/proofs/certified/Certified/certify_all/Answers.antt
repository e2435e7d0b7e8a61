use Rattle.frame_views.specs.Carried.{pairs_in}
use Rattle.frame_views.specs.CarriedWalks.{pair_of, pairs_left}
use Rattle.frame_views.specs.Shown.{message_of}
use Rattle.run_sight.proofs.PairLaws.{pair_fits, walk_goes_on, walk_has}
use Rattle.run_sight.proofs.certified.Certified.certify_all.Goals as goal

pub certify_pair-requires : goal.certify_pair-requires
certify_pair-requires g c =
    pair_fits c.args.cluster.now (message_of c.args.m.now) (pair_of c.in-Some.pair) c.requires
    (walk_has (g.V.Verifier.accepted c.args.keys.now) c.args.cluster.now (pairs_in (message_of c.args.m.now)) c.args.self.now
    (pairs_left c.loop-pair.pair-iterator) (pairs_left c.next.new.self) (pair_of c.in-Some.pair) c.loop-pair.self
    c.loop-pair.invariant.walked c.in-Some.ensures.steps)

pub loop-pair-preserved : goal.loop-pair-preserved
loop-pair-preserved g c =
    let on =
    walk_goes_on (g.V.Verifier.accepted c.args.keys.now) c.args.cluster.now (pairs_in (message_of c.args.m.now)) c.args.self.now
    (pairs_left c.loop-pair.pair-iterator) (pairs_left c.next.new.self) (pair_of c.in-Some.pair) c.loop-pair.self
    c.certify_pair.new.self c.loop-pair.invariant.walked c.in-Some.ensures.steps c.in_ok-certify_pair.ensures.added
    c.in_ok-certify_pair.ensures.grown in
    record { can = tt; ends = tt; walked = on }
