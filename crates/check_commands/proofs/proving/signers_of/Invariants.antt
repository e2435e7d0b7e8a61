use Rattle.std.proofs.Common.{◌≡◌, ◌++◌, map}
use Rattle.frame_views.specs.Walks.{signed_left}
use Rattle.frame_views.specs.Shown.{certificate_of}
use Rattle.check_commands.specs.Signers.{signer, signers}
use Rattle.check_commands.proofs.proving.signers_of.Given as goal

abbrev pub invariant-loop-item : goal.invariant-loop-item
invariant-loop-item l = record {
  can : goal.iterator-loop-item.can_next l.item-iterator;
  ends : goal.iterator-loop-item.is_finite l.item-iterator;
  listed : l.parties.items ++ map signer (signed_left l.item-iterator) ≡ signers (certificate_of l.c);
}
