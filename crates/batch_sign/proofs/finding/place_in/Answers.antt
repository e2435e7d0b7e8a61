use Rattle.std.proofs.Common.{rules, ◌≡◌, ◌≤◌, length, arith, ap, ◌∙◌}
use Rattle.std.proofs.lemmas.List.{length-map}
use Rattle.batch_sign.specs.Signatures.{leaves_of}
use Rattle.batch_sign.specs.Trees.{leaf_of, most_messages}
use Rattle.batch_sign.proofs.RealLaws.{found-real}
use Rattle.batch_sign.proofs.finding.place_in.Goals as goal

pub depth_of-requires : goal.depth_of-requires
depth_of-requires c =
    let messages = c.args.batch.now in
    let leaves : c.in_ok-leaves.leaves.items ≡ leaves_of messages = search rules in
    let count : length c.in_ok-leaves.leaves.items ≡ length messages = ap length leaves ∙ length-map messages leaf_of in
    let most : length messages ≤ most_messages = c.messages-messages.ensures.most in
    omega (arith, count, most, c.len.ensures)

pub returns-in_err-leaves-clause-real : goal.returns-in_err-leaves-clause-real
returns-in_err-leaves-clause-real c = found-real c.args.batch.now c.args.message.now c.args.signature.now c.requires

pub returns-in_err-nodes-clause-real : goal.returns-in_err-nodes-clause-real
returns-in_err-nodes-clause-real c = found-real c.args.batch.now c.args.message.now c.args.signature.now c.requires

pub returns-clause-real : goal.returns-clause-real
returns-clause-real c = found-real c.args.batch.now c.args.message.now c.args.signature.now c.requires
