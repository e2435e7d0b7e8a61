use Rattle.std.proofs.Common.{◌≡◌, take}
use Rattle.batch_sign.specs.Signatures.{leaves_of}
use Rattle.batch_sign.proofs.batch.leaves_of.Given as goal

abbrev pub invariant-loop-message : goal.invariant-loop-message
invariant-loop-message l = l.leaves.items ≡ leaves_of (take l.message-index l.messages)
