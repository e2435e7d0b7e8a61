use Rattle.std.proofs.Common.{sym, ap, ◌∙◌}
use Rattle.basil_types.specs.Shown.{transaction_of}
use Rattle.txn_table.specs.Tables.{place_of}
use Rattle.replica_core.proofs.Places.{newcomer_arrives, newcomer_with}
use Rattle.replica_core.proofs.arriving.newcomer.Goals as goal

pub returns-in_ok-make_room-in-None-clause-arrives : goal.returns-in_ok-make_room-in-None-clause-arrives
returns-in_ok-make_room-in-None-clause-arrives c =
    let es = c.args.known.now.table.entries in
    let none = sym (ap (place_of es) (c.id-id.ensures)) ∙ sym c.place_of.ensures.place
    ∙ c.in-None.is in
    newcomer_arrives es c.make_room.new.self (transaction_of c.args.t) c.in_ok-owned-in-None.owned c.make_room.ensures.entries none
    c.in_ok-owned-in-None.ensures c.in_ok-make_room-in-None.ensures.room

pub returns-in_ok-make_room-in-None-clause-with_it : goal.returns-in_ok-make_room-in-None-clause-with_it
returns-in_ok-make_room-in-None-clause-with_it c =
    let es = c.args.known.now.table.entries in
    let none = sym (ap (place_of es) (c.id-id.ensures)) ∙ sym c.place_of.ensures.place
    ∙ c.in-None.is in
    newcomer_with es c.make_room.new.self.table.entries (transaction_of c.args.t) c.in_ok-owned-in-None.owned c.make_room.ensures.entries
    none c.in_ok-owned-in-None.ensures
