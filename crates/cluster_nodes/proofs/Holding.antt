-- What a planned answer of a client leaves of its pen.
use Rattle.std.proofs.Common.{◌≡◌, ◌+◌, ap, arith}
use Rattle.keyring.specs.Signing.{Signing}
use Rattle.node_steps.specs.Pens.{PenValue, GivesItsSize}
use Rattle.client_core.specs.Clients.{ClientDone, ClientValue}
use Rattle.client_core.specs.declared.held.Held.{Held}
use Rattle.client_core.specs.declared.work.ClientPlan.{ClientPlan}
use Rattle.client_core.specs.declared.work.Work.{Work}
use Rattle.client_core.specs.declared.work.Work.TheVariants.{Nothing, Ask, Pursue, Start, Hold, Reply, Take}
use Rattle.client_core.specs.Works.{CanPerform, CanWork, Leaves, WillDo}
use Rattle.basil_types.specs.declared.outbox.Outbox.{Outbox}

-- the pen gives no more than it had
abbrev Gives : ClientValue → ClientValue → Type 0
Gives old new = new.pen.spent + new.pen.left ≡ old.pen.spent + old.pen.left

by_pen : (old new : ClientValue) → new.pen ≡ old.pen → Gives old new
by_pen old new e = ap (λ (p : PenValue). p.spent + p.left) e

module _ (signing : Signing) (held : Held) (out : Outbox) (before after : ClientValue) where
  pen_after : (w : Work) → CanWork signing.size before.pen.left held out w → Leaves signing held before w after →
      Gives before after
  pen_after Nothing can l = by_pen before after l.1
  pen_after (Ask slot asked) can l = by_pen before after (ap (λ (c : ClientValue). c.pen) l.1.2)
  pen_after (Pursue slot formed pending) can l =
      let e = ap (λ (c : ClientValue). c.pen.spent + c.pen.left) l.1.2 in
      let left = can.2.left in
      omega (arith, e, left)
  pen_after (Start slot) can l = by_pen before after (ap (λ (c : ClientValue). c.pen) l.1.2)
  pen_after (Hold recovered) can l = by_pen before after (ap (λ (c : ClientValue). c.pen) l.1.2)
  pen_after (Reply slot read reply) can l = by_pen before after (ap (λ (c : ClientValue). c.pen) l.1.3)
  pen_after (Take slot starts) can l = by_pen before after (ap (λ (c : ClientValue). c.pen) l.1.3)

pub gives_after : (signing : Signing) (held : Held) (before : ClientValue) (plan : ClientPlan) (d : ClientDone) →
    CanPerform signing.size before.pen.left held plan → WillDo signing held before plan d → GivesItsSize signing before.pen →
    GivesItsSize signing d.client.pen
gives_after signing held before plan d can will gives place words below =
    let e = pen_after signing held plan.out before d.client plan.work can.work will.leaves in
    gives place words (omega (arith, e, below))
