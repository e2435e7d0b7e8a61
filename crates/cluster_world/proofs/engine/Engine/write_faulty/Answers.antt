use Rattle.std.proofs.Common.{◌∙◌, ap, arith, sym}
use Rattle.run_begun.specs.Adding.{written}
use Rattle.cluster_world.specs.Beginning.{own_slot, written_value}
use Rattle.cluster_world.proofs.BeginLaws.{begun_here, comes_added, comes_not_added, writes_added}
use Rattle.cluster_world.proofs.engine.Engine.write_faulty.Goals as goal

pub returns-in-Ok : goal.returns-in-Ok
returns-in-Ok g c s st h none =
    let tx = c.args.tx in
    let w = written_value c.args.written in
    let k = begun_here g.V.Verifier g.S.Signer s c.args.self.now st tx h (omega (arith, c.len.ensures, c.if-len-tx.false)) in
    comes_added g.V.Verifier g.S.Signer s st c.put_write.new.self tx _ (written w k.0)
    (writes_added s st tx w k.0 c.writes_are_added.ensures (ap (λ l. own_slot l tx) (sym h.stands.begun) ∙ none) k.1)
    c.in-Ok.field-0 (c.in-Ok.ensures s st k.0 h k.1)

pub returns-in-Err : goal.returns-in-Err
returns-in-Err g c s st h none =
    let tx = c.args.tx in
    let w = written_value c.args.written in
    let k = begun_here g.V.Verifier g.S.Signer s c.args.self.now st tx h (omega (arith, c.len.ensures, c.if-len-tx.false)) in
    comes_not_added g.V.Verifier g.S.Signer s st c.put_write.new.self tx _ (written w k.0) c.in-Err.fault _
    (writes_added s st tx w k.0 c.writes_are_added.ensures (ap (λ l. own_slot l tx) (sym h.stands.begun) ∙ none) k.1)
    (c.in-Err.ensures s st k.0 h k.1) c.of_call.ensures
