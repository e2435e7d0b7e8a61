use Rattle.cluster_world.specs.Building.{setup_of}
use Rattle.cluster_world.proofs.WorldLaws.{ran_first}
use Rattle.cluster_world.proofs.world.World.new.Goals as goal

pub invariant_of-result : goal.invariant_of-result
invariant_of-result g c =
    let s = setup_of c.args.beginning c.args.faulty (g.K.Kit.value c.args.kit) in
    record {
      ran = λ e. ∣ ran_first g.K.Keys.Verifier g.K.Pen.Signer _ s
          (record {
            setting = c.is_setting.ensures;
            few = c.counted_are_few.ensures c.args.beginning.cluster c.args.faulty c.requires.few;
          }) c.in_ok-core.ensures ∣₁;
    }
