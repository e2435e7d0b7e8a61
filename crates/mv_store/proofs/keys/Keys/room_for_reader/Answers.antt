use Rattle.std.proofs.Common.{◌≡◌, ◌∙◌, sym, ap, refl, Some}
use Rattle.std.specs.Option.{option_copied_mut}
use Rattle.mv_store.specs.declared.index.KeyIndex.{KeyIndex}
use Rattle.mv_store.specs.Keys.{index_of}
use Rattle.mv_store.proofs.IndexLaws.{rooms_for_reader, more_room, written}
use Rattle.mv_store.proofs.keys.Keys.room_for_reader.Goals as goal

pub returns-clause-as_before : goal.returns-clause-as_before
returns-clause-as_before c =
    let w : KeyIndex =
    record { writers = c.in-Some.index.now.writers; readers = c.make_room.new.self; noted = c.in-Some.index.now.noted } in
    let middle = c.add_key.new.self in
    let found : index_of middle c.args.key.now ≡ Some c.in-Some.index.now = sym c.get_mut.ensures.value
    ∙ ap option_copied_mut c.in-Some.is in
    more_room c.args.self.now middle _ c.in_ok-add_key.ensures.as_before
    (rooms_for_reader middle _ c.args.key.now c.in-Some.index.now w found (written middle _ c.args.key.now c.in-Some.index.now w found
    (c.get_mut.follows.holds w).0) c.make_room.ensures.told c.make_room.ensures.kept refl refl)
