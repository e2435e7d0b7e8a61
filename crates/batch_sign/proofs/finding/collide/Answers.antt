use Rattle.std.proofs.Common.{sym, ◌∙◌}
use Rattle.batch_sign.specs.Parting.{Shows}
use Rattle.batch_sign.specs.Places.{parting, text_above, way_of}
use Rattle.batch_sign.specs.Signatures.{depth_in, leaf_number_in, path_in}
use Rattle.batch_sign.specs.Trees.{depth_over, path_over}
use Rattle.batch_sign.proofs.CollideLaws.{text_none}
use Rattle.batch_sign.proofs.PartLaws.{shown-leaves, shown-nodes}
use Rattle.batch_sign.proofs.finding.collide.Goals as goal

pub returns-in-Some : goal.returns-in-Some
returns-in-Some c =
    let signature = c.args.signature.now in
    let r = leaf_number_in signature in
    let first = way_of c.args.message.now signature in
    let second = text_above (path_over c.args.leaves.now (depth_over c.args.leaves.now) r) r c.args.held.now in
    shown-nodes first second (parting first second (depth_in signature)) c.in-Some.parted c.collision.result
    (sym c.in-Some.is ∙ c.ways_part.ensures) c.collision.ensures

pub returns-in-None : goal.returns-in-None
returns-in-None c =
    let signature = c.args.signature.now in
    let r = leaf_number_in signature in
    let tree = path_over c.args.leaves.now (depth_over c.args.leaves.now) r in
    let first = way_of c.args.message.now signature in
    let second = text_above tree r c.args.held.now in
    let told : Shows (first 0) (second 0) c.leaves_collide.result =
    rw (text_none (path_in signature) r c.args.message.now, text_none tree r c.args.held.now) c.leaves_collide.ensures in
    shown-leaves first second (parting first second (depth_in signature)) c.leaves_collide.result
    (sym c.in-None.is ∙ c.ways_part.ensures) told
