use Rattle.std.proofs.Common.{◌≡◌, false, length}
use Rattle.schedule_replay.specs.Roads.{Carries}
use Rattle.schedule_commands.proofs.Behind.{Passed}
use Rattle.schedule_commands.proofs.replay.Reading.take.Given as goal

abbrev pub invariant-lines : goal.invariant-lines
invariant-lines g l = record {
  reads : Carries l.fn.carried (g.L.Links.told l.fn.links) (g.L.Links.told l.links)
      (Passed l.fn.carried l.fn.self l.reading l.piece l.rest);
  unused : l.fn.carried ≡ false → l.links ≡ l.fn.links;
  faults : g.L.Links.faults l.links ≡ g.L.Links.faults l.fn.links;
}

abbrev pub decreases-lines : goal.decreases-lines
decreases-lines g l = length l.rest
