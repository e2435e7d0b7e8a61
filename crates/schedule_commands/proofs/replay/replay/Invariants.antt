use Rattle.std.proofs.Common.{◌≡◌, false}
use Rattle.schedule_commands.proofs.Behind.{SoFar}
use Rattle.schedule_commands.proofs.replay.replay.Given as goal

abbrev pub invariant-turns : goal.invariant-turns
invariant-turns g l = record {
  so_far :
      SoFar l.fn.carried (g.S.Source.left l.fn.source) (g.S.Source.left l.source) (g.L.Links.told l.fn.links) (g.L.Links.told l.links)
      l.reading;
  faults : g.S.Source.faults l.source ≡ g.S.Source.faults l.fn.source;
  unused : l.fn.carried ≡ false → l.links ≡ l.fn.links;
  link_faults : g.L.Links.faults l.links ≡ g.L.Links.faults l.fn.links;
}
