use Rattle.std.proofs.Common.{Ok, ap, refl, subst, sym}
use Rattle.cluster_nodes.specs.Handling as nodes
use Rattle.replica_core.specs.Answers.{answer}
use Rattle.cluster_run.specs.Parts as parts
use Rattle.cluster_run.specs.Parts.{replica_self}
use Rattle.cluster_run.specs.States.{standing}
use Rattle.cluster_world.specs.Taking.{Takes}
use Rattle.cluster_world.proofs.AskingLaws.{room_left}
use Rattle.cluster_world.proofs.PairLaws.{got}
use Rattle.cluster_world.proofs.SendingLaws.{Leaves, within_limits}
use Rattle.cluster_world.proofs.TakingLaws.{replica_at, replica_nowhere, replica_taken, replica_there, within_found}
use Rattle.cluster_world.proofs.engine.Engine.replica_takes.Goals as goal

pub returns-in_default-clause-taken : goal.returns-in_default-clause-taken
returns-in_default-clause-taken g c = λ s st h. (
  λ number.
      ap (λ o. parts.replica_handles s number c.args.from c.args.frame.now o st)
      (replica_nowhere g.V.Verifier g.S.Signer s c.args.self.now st c.args.shard c.args.index h (sym c.in_default.ensures)),
  h,
)

pub returns-clause-taken : goal.returns-clause-taken
returns-clause-taken g c = λ s st h.
    let old = c.args.self.now in
    let place = c.in-Some.place in
    let found = sym c.in-Some.ensures in
    let there = replica_there g.V.Verifier g.S.Signer s old st c.args.shard c.args.index place h found in
    let leaves : Leaves old.pool c.room.result = record { messages = c.room.ensures.messages; bytes = c.room.ensures.bytes } in
    let one = replica_at g.V.Verifier g.S.Signer s old st c.args.shard c.args.index place c.index_mut.result.now h
    (got old.replicas.items place c.index_mut.result.now (within_found _ old.replicas.items place found) c.index_mut.ensures.value) there in
    let x = there.x in
    subst
    (Takes s st old.pool
    (λ number now. parts.replica_handles s number c.args.from c.args.frame.now (standing st c.args.shard c.args.index) now) _)
    (sym c.took.ensures)
    (replica_taken g.V.Verifier g.S.Signer s old _ st c.take.new.self place refl refl h c.args.shard c.args.index there c.args.from
    c.args.frame.now (within_limits old.pool c.room.result leaves) c.in_ok-handled.handled
    (subst (λ r. nodes.Takes s x r (answer (replica_self s x.shard x.index) x.moment c.args.from x.book c.args.frame.now)
    (Ok c.in_ok-handled.handled) c.take.new.self)
    (room_left old.pool c.room.result leaves) (c.in_ok-handled.ensures.answer s x one)))
