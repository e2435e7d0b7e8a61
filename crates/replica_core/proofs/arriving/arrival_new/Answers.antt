use Rattle.basil_types.specs.Shown.{transaction_of}
use Rattle.replica_core.proofs.Places.{place_new_in}
use Rattle.replica_core.proofs.arriving.arrival_new.Goals as goal

pub returns-clause-place : goal.returns-clause-place
returns-clause-place c =
    place_new_in c.ids_tell_places.ensures c.args.known.now.table.entries c.make_room.new.self (transaction_of c.args.t)
    c.in_ok-owned.owned c.len-place.result c.make_room.ensures.entries c.requires.place c.in_ok-owned.ensures
    c.len-place.ensures.value c.in_ok-make_room.ensures.room c.in_ok-make_room.ensures.store
