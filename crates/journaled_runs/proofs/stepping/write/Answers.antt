use Rattle.std.proofs.Common.{subst}
use Rattle.cluster_run.specs.Parts.{replica_self}
use Rattle.journaled_runs.specs.Shown.{Holds, pen_of}
use Rattle.journaled_runs.proofs.Answering.{wrote}
use Rattle.journaled_runs.proofs.stepping.write.Goals as goal

pub returns-in-Ok : goal.returns-in-Ok
returns-in-Ok g c = λ s x e holds hands room.
    subst (Holds s c.take.new.self)
    (wrote s x e c.args.letter.now hands room c.in-Ok._took
    (c.in-Ok.ensures.took (replica_self s) (pen_of s) x.journals holds))
    (c.in-Ok.ensures.journals (replica_self s) (pen_of s) x.journals holds)
