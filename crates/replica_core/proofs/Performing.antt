-- What the parts show once work is performed.
use Rattle.std.proofs.Common.{◌≡◌, ap, subst}
use Rattle.basil_types.specs.declared.outbox.Outbox.{Outbox}
use Rattle.mvtso_check.specs.Standing.{StandsFor}
use Rattle.node_steps.specs.Pens.{PenValue}
use Rattle.replica_core.specs.declared.parts.Parts.{Parts}
use Rattle.replica_core.specs.Nodes.{Performs, Shows, book_shown}
use Rattle.replica_core.specs.Replicas.{BookValue}
use Rattle.replica_core.specs.Telling.{Told, told_with}

pub performed_by : (parts : Parts) (pen : PenValue) (out : Outbox) (t : Told) (x : BookValue) → told_with x out ≡ t →
    book_shown x parts pen ≡ x → StandsFor parts.known.store parts.known.table.entries x.noted → Performs parts pen out t
performed_by parts pen out t x e s n =
    record {
      book = subst (λ (t : Told). Shows parts pen t.book) e (record { same = s; noted = n });
      messages = ap (λ (t : Told). t.sent) e;
      signed = ap (λ (t : Told). t.signed) e;
    }
