use Rattle.std.proofs.Common.{◌∙◌, ap, sym}
use Rattle.node_steps.specs.Pendings.{bytes_sent}
use Rattle.faulty_parties.proofs.SentLaws.{sealed_bytes}
use Rattle.faulty_parties.proofs.lie.Lie.bytes.Goals as goal

pub returns-clause-said : goal.returns-clause-said
returns-clause-said c u signature says can =
    ap bytes_sent (sym (says.frames signature)) ∙ sealed_bytes signature c.args.self.now.pending.frames.items ∙ sym can.bytes
