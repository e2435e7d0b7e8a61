-- The plan told how many bytes its answer has.
use Rattle.std.proofs.Common.{◌≡◌, length, sym, ap, ◌∙◌, arith}
use Rattle.node_steps.specs.Pendings.{bytes_sent}
use Rattle.node_link.proofs.SizeLaws.{sized_by}
use Rattle.node_link.proofs.node.carry_out.Goals as goal

pub put_answer-requires-clause-short : goal.put_answer-requires-clause-short
put_answer-requires-clause-short g c =
    let size = sized_by c.as_slice.result.now c.messages.result c.bytes.result
    (ap length c.as_slice.ensures ∙ c.commit-sent.ensures.messages ∙ sym c.messages.ensures)
    (ap bytes_sent c.as_slice.ensures ∙ c.commit-sent.ensures.bytes ∙ sym c.bytes.ensures) in
    omega (arith, size, c.in-Ok.ensures.short)

pub put_answer-requires-clause-room : goal.put_answer-requires-clause-room
put_answer-requires-clause-room g c =
    let size = sized_by c.as_slice.result.now c.messages.result c.bytes.result
    (ap length c.as_slice.ensures ∙ c.commit-sent.ensures.messages ∙ sym c.messages.ensures)
    (ap bytes_sent c.as_slice.ensures ∙ c.commit-sent.ensures.bytes ∙ sym c.bytes.ensures) in
    let empty : length c.in-Ok.room.items ≡ 0 = ap length c.in-Ok.ensures.empty in
    omega (arith, size, empty, c.in-Ok.ensures.room)
