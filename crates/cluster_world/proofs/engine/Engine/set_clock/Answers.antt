use Rattle.std.proofs.Common.{refl, sym}
use Rattle.cluster_world.proofs.TakingLaws.{clock_set, no_clock, within_found}
use Rattle.cluster_world.proofs.engine.Engine.set_clock.Goals as goal

pub returns-in-Some : goal.returns-in-Some
returns-in-Some g c = λ s st h.
    let old = c.args.self.now in
    clock_set g.V.Verifier g.S.Signer s old _ st c.args.shard c.args.index c.args.moment c.index_mut.result.now c.set_clock.new.self
    c.in-Some.place refl refl (within_found _ old.replicas.items c.in-Some.place (sym c.in-Some.ensures)) c.index_mut.ensures.value
    (sym c.in-Some.ensures) (c.set_clock.ensures s) h

pub returns-in_default : goal.returns-in_default
returns-in_default g c = λ s st h.
    no_clock g.V.Verifier g.S.Signer s c.args.self.now c.args.self.now st c.args.shard c.args.index c.args.moment
    (sym c.in_default.ensures) h
