use Rattle.std.proofs.Common.{◌++◌, ◌∷◌, []}
use Rattle.sha2.specs.Hashers.{Holds256}
use Rattle.lms_ots.specs.Chains.{head, leaf_of, joined}
use Rattle.lms_ots.specs.Lanes.{end_in}
use Rattle.lms_ots.proofs.signatures.key_of_chains.Given as goal

abbrev pub invariant-loop-i : goal.invariant-loop-i
invariant-loop-i l = Holds256 l.hasher (head (leaf_of l.ident l.q) ++ 0x80 ∷ 0x80 ∷ [] ++ joined (end_in l.ends) l.i)
