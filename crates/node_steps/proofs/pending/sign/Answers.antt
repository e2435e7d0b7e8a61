use Rattle.std.proofs.Common.{◌≡◌, length, ◌∙◌}
use Rattle.node_steps.proofs.Sending.{more_sent}
use Rattle.node_steps.proofs.pending.sign.Goals as goal

pub returns-clause-sends : goal.returns-clause-sends
returns-clause-sends g c =
    let len : length c.as_slice.result.now ≡ (g.S.Signer.fixed c.args.pen.now).size = c.as_slice.ensures.len ∙ c.requires.ready.stored in
    more_sent c.as_slice.result.now (g.S.Signer.fixed c.args.pen.now).size c.args.out.now c.send.new.out c.args.pending.frames.items len
    c.send.ensures.messages
