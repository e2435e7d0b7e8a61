use Rattle.std.proofs.Common.{ap, arith, length, sym}
use Rattle.faulty_parties.proofs.SentLaws.{length_sealed}
use Rattle.faulty_parties.proofs.lie.Lie.messages.Goals as goal

pub returns-clause-said : goal.returns-clause-said
returns-clause-said c u signature says =
    let frames = c.args.self.now.pending.frames in
    let sent = ap length (sym (says.frames signature)) in
    omega (arith, sent, length_sealed signature frames.items, frames.ok.0, c.len.ensures)
