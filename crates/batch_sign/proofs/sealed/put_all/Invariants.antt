use Rattle.std.proofs.Common.{◌≡◌, ◌*◌, take}
use Rattle.lms_ots.specs.Chains.{joined}
use Rattle.batch_sign.specs.Signatures.{signature_of}
use Rattle.batch_sign.proofs.sealed.put_all.Given as goal

abbrev pub invariant-loop-place : goal.invariant-loop-place
invariant-loop-place l = take (l.place * l.size) l.out ≡ joined (signature_of (record { leaves = l.leaves; inner = l.inner })) l.place
