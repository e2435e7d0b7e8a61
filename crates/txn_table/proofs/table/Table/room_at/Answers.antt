use Rattle.std.proofs.Common.{◌≡◌, Some, List, sym, ap, subst, ◌∙◌}
use Rattle.std.specs.List.{IsDistinct}
use Rattle.std.specs.Str.{bytes_eq}
use Rattle.std.proofs.lemmas.Option.{same_Some}
use Rattle.txn_table.specs.Entries.{EntryValue, proof_of}
use Rattle.txn_table.specs.Shown.{has_room}
use Rattle.txn_table.specs.Tables.{TableValue, ids_of, place_of}
use Rattle.txn_table.specs.Kept.{shown, HasRoom}
use Rattle.txn_table.proofs.Keeping.{proof-at, shown-kept, room-changed, kept-changed, room-placed}
use Rattle.txn_table.proofs.table.Table.room_at.Goals as goal

pub invariant_of-self : goal.invariant_of-self
invariant_of-self c =
    let m = c.self.inside.entries in
    let askers = c.self.inside.askers in
    let e = c.index_mut-entry.result.now in
    let w = c.make_room.new.self in
    let at = c.index_mut-entry.ensures.value in
    let same : w.transaction ≡ e.transaction = ap (λ (e : EntryValue). e.transaction) c.make_room.ensures.same in
    let distinct : IsDistinct bytes_eq (ids_of (shown m)) =
    subst (λ (t : TableValue). IsDistinct bytes_eq (ids_of t.entries)) (sym c.self.view_is) c.requires.held.distinct in
    let place : place_of (shown m) c.args.id ≡ Some c.args.place = ap (λ (t : TableValue). place_of t.entries c.args.id) c.self.view_is
    ∙ c.requires.place in
    kept-changed m askers c.args.place e w at same c.self.inside.room (Some c.args.id)
    (λ place is. proof-at m askers c.self.inside.room c.args.place e at c.self.invariant place
    (sym (ap (λ (e : EntryValue). proof_of e.vote) c.make_room.ensures.same) ∙ is))
    (λ id is. subst (HasRoom _ askers) (same_Some c.args.id id is)
    (room-placed m askers c.args.place c.args.id e w at distinct place same c.in-Ok.ensures.room))
    c.self.invariant

pub invariant_of-self-in-Err : goal.invariant_of-self-in-Err
invariant_of-self-in-Err c =
    let m = c.self.inside.entries in
    let askers = c.self.inside.askers in
    let e = c.index_mut-entry.result.now in
    let w = c.make_room.new.self in
    let at = c.index_mut-entry.ensures.value in
    let same : w.transaction ≡ e.transaction = ap (λ (e : EntryValue). e.transaction) c.make_room.ensures.same in
    kept-changed m askers c.args.place e w at same c.self.inside.room c.self.inside.room
    (λ place is. proof-at m askers c.self.inside.room c.args.place e at c.self.invariant place
    (sym (ap (λ (e : EntryValue). proof_of e.vote) c.make_room.ensures.same) ∙ is))
    (λ id is. room-changed m askers c.args.place e w at same id (λ h. ap has_room c.in-Err.ensures.as_before
    ∙ h) (c.self.invariant.made id is))
    c.self.invariant

pub returns-in-Ok-clause-made : goal.returns-in-Ok-clause-made
returns-in-Ok-clause-made c =
    let e = c.index_mut-entry.result.now in
    let w = c.make_room.new.self in
    let same : w.transaction ≡ e.transaction = ap (λ (e : EntryValue). e.transaction) c.make_room.ensures.same in
    ap (λ (es : List EntryValue). let t : TableValue = record { entries = es; room = Some c.args.id } in t) (shown-kept
    c.self.inside.entries c.self.inside.askers c.args.place e w c.index_mut-entry.ensures.value same c.make_room.ensures.same)
    ∙ ap (λ (t : TableValue). let t' : TableValue = record t { room = Some c.args.id } in t') c.self.view_is

pub returns-in-Err-clause-as_before : goal.returns-in-Err-clause-as_before
returns-in-Err-clause-as_before c =
    let e = c.index_mut-entry.result.now in
    let w = c.make_room.new.self in
    let same : w.transaction ≡ e.transaction = ap (λ (e : EntryValue). e.transaction) c.make_room.ensures.same in
    ap (λ (es : List EntryValue). let t : TableValue = record { entries = es; room = c.self.inside.room } in t) (shown-kept
    c.self.inside.entries c.self.inside.askers c.args.place e w c.index_mut-entry.ensures.value same c.make_room.ensures.same)
    ∙ c.self.view_is
