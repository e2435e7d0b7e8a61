use Rattle.std.proofs.Common.{sym, ◌∙◌, arith}
use Rattle.std.proofs.lemmas.Nat.{from_be_bytes-to_be_bytes_4}
use Rattle.sha256_lanes.proofs.steps.head_word.Goals as goal

pub returns : goal.returns
returns c k lt = c.splat.ensures k lt ∙ sym (from_be_bytes-to_be_bytes_4 c.args.x (omega arith))
