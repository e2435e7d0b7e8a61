use Rattle.std.proofs.Common.{◌≡◌, take, false}
use Rattle.schedule_replay.specs.Roads.{Carries}
use Rattle.schedule_replay.proofs.Courses.{Sofar}
use Rattle.schedule_replay.proofs.course.Course.round.Given as goal

abbrev pub invariant-loop-message : goal.invariant-loop-message
invariant-loop-message g l =
    record {
      going : l.self.world.ended ≡ false;
      names : l.self.names ≡ l.fn.self.names;
      unused : l.fn.carried ≡ false → l.links ≡ l.fn.links;
      faults : g.L.Links.faults l.links ≡ g.L.Links.faults l.fn.links;
      carries :
          Carries l.fn.carried (g.L.Links.told l.fn.links) (g.L.Links.told l.links)
          (Sofar l.fn.self l.self (take l.message-index l.message-items) l.fn.carried);
    }
