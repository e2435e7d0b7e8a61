use Rattle.std.proofs.Common.{◌∙◌, ap, arith, sym}
use Rattle.cluster_run.specs.Parts.{client_handles, handle, handle_by, replica_handles}
use Rattle.cluster_run.specs.States.{client_at, standing}
use Rattle.run_sight.specs.Sights.{sight_of}
use Rattle.cluster_world.proofs.HandingLaws.{handle_faulty, handle_right, takes_same}
use Rattle.cluster_world.proofs.engine.Engine.take.Goals as goal

pub returns-then-is_faulty-clause-taken : goal.returns-then-is_faulty-clause-taken
returns-then-is_faulty-clause-taken g c = λ s st h. (
  λ number.
      handle_faulty s number c.args.from c.args.to c.args.frame.now st
      (sym (c.is_faulty.ensures s (sight_of st) h.earlier h.sight) ∙ c.if-is_faulty.true),
  h,
)

pub returns-in-Replica-clause-taken : goal.returns-in-Replica-clause-taken
returns-in-Replica-clause-taken g c = λ s st h.
    takes_same g.V.Verifier g.S.Signer s st c.args.self.now.pool (λ number now. handle s number c.args.from c.args.to c.args.frame.now now)
    (λ number now. replica_handles s number c.args.from c.args.frame.now (standing st c.in-Replica.shard c.in-Replica.index) now)
    (λ number.
    handle_right s number c.args.from c.args.to c.args.frame.now st
    (sym (c.is_faulty.ensures s (sight_of st) h.earlier h.sight) ∙ c.if-is_faulty.false) (λ i. omega (arith, c.type_inv.frame i))
    ∙ ap (λ p. handle_by s number c.args.from p c.args.frame.now st) c.in-Replica.is)
    c.replica_takes.new.self c.replica_takes.result (c.replica_takes.ensures.taken s st h)

pub returns-in-Client-clause-taken : goal.returns-in-Client-clause-taken
returns-in-Client-clause-taken g c = λ s st h.
    takes_same g.V.Verifier g.S.Signer s st c.args.self.now.pool (λ number now. handle s number c.args.from c.args.to c.args.frame.now now)
    (λ number now. client_handles s number c.in-Client.number c.args.frame.now (client_at st c.in-Client.number) now)
    (λ number.
    handle_right s number c.args.from c.args.to c.args.frame.now st
    (sym (c.is_faulty.ensures s (sight_of st) h.earlier h.sight) ∙ c.if-is_faulty.false) (λ i. omega (arith, c.type_inv.frame i))
    ∙ ap (λ p. handle_by s number c.args.from p c.args.frame.now st) c.in-Client.is)
    c.client_takes.new.self c.client_takes.result (c.client_takes.ensures.taken s st h)
