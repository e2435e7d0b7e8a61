use Rattle.std.proofs.Common.{◌≡◌, Some, None, map, ap, subst, ◌∙◌}
use Rattle.std.specs.Map.{values_of}
use Rattle.std.proofs.lemmas.Option.{same_Some}
use Rattle.txn_table.specs.Shown.{entry_of}
use Rattle.txn_table.specs.Tables.{TableValue, place_of}
use Rattle.txn_table.specs.Kept.{shown, HasRoom}
use Rattle.txn_table.proofs.Room.{kept-same, room-same, room-new}
use Rattle.txn_table.proofs.table.Table.room_for_new.Goals as goal

pub invariant_of-self : goal.invariant_of-self
invariant_of-self c =
    let m = c.self.inside.entries in
    let m' = c.room_for_entry.new.entries in
    let same = c.room_for_entry.ensures.same in
    let absent : place_of (shown m') c.args.id ≡ None =
    ap (λ es. place_of (map entry_of (values_of es)) c.args.id) same ∙ ap (λ (t : TableValue). place_of t.entries c.args.id) c.self.view_is
    ∙ c.requires in
    kept-same m m' same c.self.inside.askers c.room_for_entry.new.askers c.self.inside.room
    (Some c.args.id) c.room_for_entry.ensures.same_askers
    (λ id is. subst (HasRoom m' c.room_for_entry.new.askers)
    (same_Some c.args.id id is) (room-new m' c.room_for_entry.new.askers c.args.id c.in-Ok.ensures.room absent))
    c.self.invariant

pub invariant_of-self-in-Err : goal.invariant_of-self-in-Err
invariant_of-self-in-Err c =
    let m = c.self.inside.entries in
    let m' = c.room_for_entry.new.entries in
    let same = c.room_for_entry.ensures.same in
    kept-same m m' same c.self.inside.askers
    c.room_for_entry.new.askers c.self.inside.room c.self.inside.room c.room_for_entry.ensures.same_askers
    (λ id is. room-same m m' same c.self.inside.askers
    c.room_for_entry.new.askers id c.room_for_entry.ensures.spare c.in-Err.ensures.as_before (c.self.invariant.made id is))
    c.self.invariant
