use Rattle.std.proofs.Common.{arith}
use Rattle.run_begun.specs.Adding.{claimed}
use Rattle.cluster_world.proofs.BeginLaws.{begun_here, claims_added, comes_added, comes_not_added}
use Rattle.cluster_world.proofs.engine.Engine.claim_at.Goals as goal

pub returns-in-Ok : goal.returns-in-Ok
returns-in-Ok g c s st h =
    let tx = c.args.tx in
    let k = begun_here g.V.Verifier g.S.Signer s c.args.self.now st tx h (omega (arith, c.len.ensures, c.if-len-tx.false)) in
    comes_added g.V.Verifier g.S.Signer s st c.put_claim.new.self tx _ (claimed c.args.key.now c.args.version.now k.0)
    (claims_added st tx c.args.key.now c.args.version.now k.0 c.claims_are_added.ensures k.1)
    c.in-Ok.field-0 (c.in-Ok.ensures s st k.0 h k.1)

pub returns-in-Err : goal.returns-in-Err
returns-in-Err g c s st h =
    let tx = c.args.tx in
    let k = begun_here g.V.Verifier g.S.Signer s c.args.self.now st tx h (omega (arith, c.len.ensures, c.if-len-tx.false)) in
    comes_not_added g.V.Verifier g.S.Signer s st c.put_claim.new.self tx _ (claimed c.args.key.now c.args.version.now k.0) c.in-Err.fault _
    (claims_added st tx c.args.key.now c.args.version.now k.0 c.claims_are_added.ensures k.1)
    (c.in-Err.ensures s st k.0 h k.1) c.of_call.ensures
