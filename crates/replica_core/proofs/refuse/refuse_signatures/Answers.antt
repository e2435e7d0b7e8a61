use Rattle.std.proofs.Common.{sym, subst, ap}
use Rattle.frame_views.specs.Shown.{message_of}
use Rattle.basil_types.specs.Refusals.{Refuses}
use Rattle.replica_core.specs.Refusals.{bad_signature}
use Rattle.replica_core.specs.Seats.{self_at}
use Rattle.replica_core.proofs.refuse.refuse_signatures.Goals as goal

pub returns-in-St2 : goal.returns-in-St2
returns-in-St2 g c signing =
    subst (Refuses c.refuse_client-in-St2.result)
    (sym (ap (λ v. bad_signature (self_at c.args.seat.now (g.V.Verifier.accepted c.args.keys.now) signing) (message_of v)) c.in-St2.is))
    c.refuse_client-in-St2.ensures

pub returns-in-Recover : goal.returns-in-Recover
returns-in-Recover g c signing =
    subst (Refuses c.refuse_client-in-Recover.result)
    (sym (ap (λ v. bad_signature (self_at c.args.seat.now (g.V.Verifier.accepted c.args.keys.now) signing) (message_of v)) c.in-Recover.is))
    c.refuse_client-in-Recover.ensures
