use Rattle.std.proofs.Common.{refl}
use Rattle.cluster_world.proofs.HandingLaws.{deliver_comes, deliver_fails, deliver_room}
use Rattle.cluster_world.proofs.engine.Engine.deliver.Goals as goal

pub returns-in_err-took : goal.returns-in_err-took
returns-in_err-took g c = λ s st h.
    deliver_fails g.V.Verifier g.S.Signer s c.args.self.now c.hand.new.self st c.args.message c.in-Some.from c.in-Some.to c.args.given.now
    c.parties_of.result c.in-Some.is c.parties_of.ensures.parties c.in-Some.ensures.number.0 h c.in_err-took.ensures.pool
    c.has_frame-was_seen.result c.has_frame-was_seen.ensures
    c.from_residual.result c.in_err-took.field-0.0 c.from_residual.ensures.1 (c.in_err-took.ensures.handed s)

pub react-requires : goal.react-requires
react-requires g c =
    deliver_room c.args.self.now.pool c.hand.new.self.pool c.deliver.new.self c.args.message c.in-Some.from c.in-Some.to c.parties_of.result
    c.in-Some.is c.parties_of.ensures.parties c.in-Some.ensures.number.0 c.in_ok-took.ensures.pool c.deliver.ensures.posts
    c.deliver.ensures.limits c.in_ok-took.took c.in_ok-took.ensures.within

pub returns : goal.returns
returns g c = λ s st h.
    deliver_comes g.V.Verifier g.S.Signer s c.args.self.now c.hand.new.self st c.args.message c.in-Some.from c.in-Some.to
    c.args.given.now c.parties_of.result c.in-Some.is c.parties_of.ensures.parties c.in-Some.ensures.number.0 h c.in_ok-took.ensures.pool
    c.has_frame-was_seen.result c.has_frame-was_seen.ensures
    (record c.hand.new.self { pool = c.deliver.new.self }) c.react.new.self refl c.deliver.ensures.posts c.deliver.ensures.limits
    c.in_ok-took.took c.react.result (c.in_ok-took.ensures.handed s) (c.react.ensures s)
