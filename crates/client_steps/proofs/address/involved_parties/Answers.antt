use Rattle.std.proofs.Common.{◌∙◌, List, ◌++◌, take, sym, ap}
use Rattle.std.specs.Prelude.{slice_get}
use Rattle.std.specs.List.{flat_map}
use Rattle.basil_types.specs.Shown.{transaction_of}
use Rattle.basil_types.specs.declared.party.Party.{Party}
use Rattle.txn_meta.specs.Places.{involved, members}
use Rattle.client_steps.specs.Addressing.{parties_at, parties_of}
use Rattle.client_steps.proofs.AddressLaws.{next_involved}
use Rattle.client_steps.proofs.address.involved_parties.Goals as goal

pub loop-place-preserved : goal.loop-place-preserved
loop-place-preserved c =
    let cl = c.args.cluster.now in
    let xs = involved cl (transaction_of c.args.t) in
    c.in_ok-add_involved.ensures
    ∙ ap (λ (l : List Party). l ++ parties_at cl (slice_get (members c.involved-shards.result) c.loop-place.place)) c.loop-place.invariant
    ∙ ap (λ m. flat_map (parties_of cl) (take c.loop-place.place xs) ++ parties_at cl (slice_get (members m) c.loop-place.place))
    c.involved-shards.ensures
    ∙ sym (next_involved cl xs c.loop-place.place)
