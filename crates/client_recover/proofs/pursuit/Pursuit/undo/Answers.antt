use Rattle.std.proofs.Common.{sym, ◌∙◌}
use Rattle.quorum_laws.specs.Numbers.{replicas}
use Rattle.client_recover.proofs.pursuit.Pursuit.undo.Goals as goal

pub invariant_of-self-in-Log-clause-logs_sound : goal.invariant_of-self-in-Log-clause-logs_sound
invariant_of-self-in-Log-clause-logs_sound c =
    let u = c.args.self.now in
    c.take_back.ensures.sound u.logs_sound (u.last_sound c.in-Log.last (sym c.replace.ensures.value ∙ c.in-Log.is))

pub invariant_of-self-in-Log-clause-logs_below : goal.invariant_of-self-in-Log-clause-logs_below
invariant_of-self-in-Log-clause-logs_below c =
    let u = c.args.self.now in c.take_back.ensures.below (replicas u.cluster.f) u.logs_below
