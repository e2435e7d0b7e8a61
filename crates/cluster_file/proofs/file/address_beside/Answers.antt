use Rattle.std.proofs.Common.{sym, ◌∙◌, arith}
use Rattle.std.proofs.lemmas.Grind.{common_steps}
use Rattle.cluster_file.proofs.AddressLaws.{skips, ends}
use Rattle.cluster_file.proofs.file.address_beside.Goals as goal

pub loop-place-preserved : goal.loop-place-preserved
loop-place-preserved c =
    c.loop-place.invariant ∙ skips c.args.publics.now c.args.addresses.now c.args.party c.loop-place.place _ (omega arith) (omega arith)
    (sym c.if-is_of.ensures)

pub returns : goal.returns
returns c = sym (c.loop-place.invariant ∙ ends c.args.publics.now c.args.addresses.now c.args.party c.loop-place.place (omega arith))

pub returns-then-is_of : goal.returns-then-is_of
returns-then-is_of c = grind (arith, common_steps)
