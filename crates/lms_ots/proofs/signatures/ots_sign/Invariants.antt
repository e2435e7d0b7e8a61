use Rattle.std.proofs.Common.{◌≡◌, ◌+◌, ◌*◌, ◌++◌, take, length}
use Rattle.std.specs.Int.{w32, to_be_bytes}
use Rattle.lms_ots.specs.Sets.{type_of, signature_length}
use Rattle.lms_ots.specs.Chains.{joined}
use Rattle.lms_ots.specs.Lanes.{end_in}
use Rattle.lms_ots.proofs.signatures.ots_sign.Given as goal

abbrev pub invariant-loop-i : goal.invariant-loop-i
invariant-loop-i l = record {
  len : length l.out ≡ signature_length l.fn.set;
  written : take (36 + 32 * l.i) l.out ≡ to_be_bytes w32 (type_of l.fn.set) ++ l.c ++ joined (end_in l.ends) l.i;
}
