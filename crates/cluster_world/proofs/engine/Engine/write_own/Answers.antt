use Rattle.std.proofs.Common.{refl}
use Rattle.client_core.specs.Calls.{call_write}
use Rattle.cluster_world.specs.Beginning.{written_value}
use Rattle.cluster_world.proofs.BeginLaws.{caller, comes_called, comes_not_called, comes_same, nobody_called, quiet_write, somebody_called}
use Rattle.cluster_world.proofs.engine.Engine.write_own.Goals as goal

pub returns-in_default : goal.returns-in_default
returns-in_default g c s st h =
    comes_same g.V.Verifier g.S.Signer s st c.args.self.now _
    (nobody_called s st c.args.client (λ x. call_write x c.args.slot (written_value c.args.written))
    (c.in_default.ensures.nobody s st h.stands refl)) h

pub returns-in-Ok : goal.returns-in-Ok
returns-in-Ok g c s st h =
    let old = c.args.self.now in
    let place = c.in-Some.place in
    let w = written_value c.args.written in
    let own = caller g.V.Verifier g.S.Signer s old st place h.stands c.in-Some.ensures.there.0 in
    comes_called g.V.Verifier g.S.Signer s st c.write_at.new.self old.pool c.args.client place _ (call_write own.0 c.args.slot w)
    c.in-Some.ensures.there.1
    (somebody_called s st c.args.client place own.0 (λ x. call_write x c.args.slot w) (c.in-Some.ensures.somebody s st h.stands) own.1)
    (quiet_write own.0 c.args.slot w) c.pool_keeps_limits.ensures h.posts h.stands.limits _ (c.in-Ok.ensures s st own.0 h own.1)

pub returns-in-Err : goal.returns-in-Err
returns-in-Err g c s st h =
    let old = c.args.self.now in
    let place = c.in-Some.place in
    let w = written_value c.args.written in
    let own = caller g.V.Verifier g.S.Signer s old st place h.stands c.in-Some.ensures.there.0 in
    comes_not_called g.V.Verifier g.S.Signer s (Unit {0}) st c.write_at.new.self c.args.client place _ (call_write own.0 c.args.slot w) st
    c.in-Err.fault _
    (somebody_called s st c.args.client place own.0 (λ x. call_write x c.args.slot w) (c.in-Some.ensures.somebody s st h.stands) own.1)
    (c.in-Err.ensures s st own.0 h own.1) c.of_call.ensures
