use Rattle.std.proofs.Common.{arith, refl, subst, sym}
use Rattle.schedule_replay.specs.Roads.{road_with}
use Rattle.schedule_replay.specs.Schedules.{IsAt, IsGoing}
use Rattle.schedule_replay.specs.Stages.{Begins}
use Rattle.schedule_commands.proofs.replay.Reading.new.Goals as goal

pub returns : goal.returns
returns c = λ carried later. record {
  stage = Begins (road_with carried later);
  ran = refl;
  goes = refl;
  shown = subst (λ s. IsAt s (Begins (road_with carried later))) (sym c.new.ensures) tt;
  going = subst IsGoing (sym c.new.ensures) tt;
  number = refl;
  line = c.new-2.ensures.items;
  short = omega arith;
}
