use Rattle.std.proofs.Common.{◌≡◌, take}
use Rattle.std.specs.List.{flat_map}
use Rattle.basil_types.specs.Shown.{transaction_of}
use Rattle.txn_meta.specs.Places.{involved}
use Rattle.client_steps.specs.Addressing.{parties_of}
use Rattle.client_steps.proofs.address.involved_parties.Given as goal

abbrev pub invariant-loop-place : goal.invariant-loop-place
invariant-loop-place l = l.parties.items ≡ flat_map (parties_of l.cluster) (take l.place (involved l.cluster (transaction_of l.fn.t)))
