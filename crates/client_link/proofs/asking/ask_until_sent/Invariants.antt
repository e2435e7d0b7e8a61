-- Some messages were asked, and the client sent nothing.
use Rattle.client_link.specs.Having.{work_left}
use Rattle.client_link.proofs.AskLaws.{Asking}
use Rattle.client_link.proofs.asking.ask_until_sent.Given as goal

abbrev pub invariant-loop-errands : goal.invariant-loop-errands
invariant-loop-errands g l =
    Asking l.initial.client l.client l.file (g.L.Links.told l.initial.links) (g.L.Links.told l.links) l.initial.errands l.errands
    (g.L.Links.faults l.initial.links) (g.L.Links.faults l.links)

abbrev pub decreases-loop-errands : goal.decreases-loop-errands
decreases-loop-errands g l = work_left l.errands
