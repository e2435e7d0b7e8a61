use Rattle.std.proofs.Common.{Some}
use Rattle.std.specs.Prelude.{None}
use Rattle.cluster_run.specs.Parts.{replica_self}
use Rattle.journaled_runs.specs.Shown.{pen_of}
use Rattle.journaled_runs.proofs.Answering.{full_by_finding}
use Rattle.journaled_runs.proofs.stepping.find_room.Goals as goal

pub returns-in-Ok-None : goal.returns-in-Ok-None
returns-in-Ok-None g c = λ s kit x e keeps hands. (
  full_by_finding s x e c.args.letter.now hands None
      (rw c.in-Ok-None.field-0-is at (c.in-Ok-None.ensures.full (replica_self s) (pen_of s) x.journals keeps.holds)),
  record {
    kit_is = keeps.kit_is;
    holds = c.in-Ok-None.ensures.journals (replica_self s) (pen_of s) x.journals keeps.holds;
    own = keeps.own;
  },
)

pub returns-in-Ok-Some : goal.returns-in-Ok-Some
returns-in-Ok-Some g c = λ s kit x e keeps hands. (
  full_by_finding s x e c.args.letter.now hands (Some (c.in-Ok-Some.messages, c.in-Ok-Some.bytes))
      (rw c.in-Ok-Some.field-0-is at (c.in-Ok-Some.ensures.full (replica_self s) (pen_of s) x.journals keeps.holds)),
  record {
    kit_is = keeps.kit_is;
    holds = c.in-Ok-Some.ensures.journals (replica_self s) (pen_of s) x.journals keeps.holds;
    own = keeps.own;
  },
)
