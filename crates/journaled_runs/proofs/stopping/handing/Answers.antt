use Rattle.std.proofs.Common.{◌∙◌, cond, sym, ap}
use Rattle.basil_types.specs.declared.party.Party.TheVariants.{Replica}
use Rattle.cluster_run.specs.Events.{EventValue, Deliver, Divert}
use Rattle.journaled_runs.proofs.stopping.handing.Goals as goal

pub returns-then-is_to : goal.returns-then-is_to
returns-then-is_to g c = λ s st shows.
    sym (ap (λ b. cond {A = EventValue} b (Deliver c.args.message c.args.given.now)
    (Divert c.args.message (Replica c.args.shard c.args.index) c.args.given.now))
    (sym (c.is_to.ensures s st shows) ∙ c.if-is_to.true))

pub returns-else-is_to : goal.returns-else-is_to
returns-else-is_to g c = λ s st shows.
    sym (ap (λ b. cond {A = EventValue} b (Deliver c.args.message c.args.given.now)
    (Divert c.args.message (Replica c.args.shard c.args.index) c.args.given.now))
    (sym (c.is_to.ensures s st shows) ∙ c.if-is_to.false))
