use Rattle.basil_types.specs.Shown.{transaction_of}
use Rattle.replica_core.proofs.Places.{place_old_in}
use Rattle.replica_core.proofs.arriving.arrival_known.Goals as goal

pub returns-clause-place : goal.returns-clause-place
returns-clause-place c =
    place_old_in c.args.known.now.table.entries c.make_room_at.new.self (transaction_of c.args.t) c.args.place
    c.make_room_at.ensures.entries c.requires.place c.requires.held c.requires.found c.in_ok-make_room_at.ensures.room
    c.requires.undecided c.in_ok-make_room_at.ensures.store
