use Rattle.std.proofs.Common.{◌≡◌, None, List, sym, ap, ◌∙◌, option_map, slice_get}
use Rattle.txn_table.specs.Entries.{EntryValue, asked, proof_of}
use Rattle.txn_table.specs.Shown.{entry_of}
use Rattle.txn_table.specs.Tables.{TableValue, id_of, changed}
use Rattle.txn_table.proofs.Keeping.{shown-at, proof-at, asker-at, shown-changed, kept-changed, asked-proof}
use Rattle.txn_table.proofs.table.Table.wait.Goals as goal

pub wait-requires : goal.wait-requires
wait-requires c =
    let m = c.self.inside.entries in
    let e = c.index_mut-entry.result.now in
    let at = c.index_mut-entry.ensures.value in
    let room = c.self.inside.room in
    asker-at m c.self.inside.askers room c.args.place e at c.self.invariant
    (ap (λ (t : TableValue). t.room) c.self.view_is ∙ c.requires.room
    ∙ sym (ap (λ (t : TableValue). option_map id_of (slice_get t.entries c.args.place)) c.self.view_is)
    ∙ ap (option_map id_of) (shown-at m c.self.inside.askers room c.args.place e at))

pub invariant_of-self : goal.invariant_of-self
invariant_of-self c =
    let m = c.self.inside.entries in
    let e = c.index_mut-entry.result.now in
    let w = c.wait.new.self in
    let at = c.index_mut-entry.ensures.value in
    let same : w.transaction ≡ e.transaction = ap (λ (e : EntryValue). e.transaction) c.wait.ensures in
    kept-changed m c.self.inside.askers c.args.place e w at same c.self.inside.room None
    (λ place is. proof-at m c.self.inside.askers c.self.inside.room c.args.place e at c.self.invariant place
    (sym (ap (λ (e : EntryValue). proof_of e.vote) c.wait.ensures ∙ asked-proof c.args.asker (entry_of e).vote) ∙ is))
    (λ id is. absurd cc)
    c.self.invariant

pub returns : goal.returns
returns c =
    let e = c.index_mut-entry.result.now in
    let w = c.wait.new.self in
    let same : w.transaction ≡ e.transaction = ap (λ (e : EntryValue). e.transaction) c.wait.ensures in
    let f : EntryValue → EntryValue = asked c.args.asker in
    ap (λ (es : List EntryValue). let t : TableValue = record { entries = es; room = None } in t)
    (shown-changed c.self.inside.entries c.self.inside.askers c.args.place e w c.index_mut-entry.ensures.value same f c.wait.ensures)
    ∙ ap (λ (t : TableValue). let t' : TableValue = record { entries = changed f c.args.place t.entries; room = None } in t') c.self.view_is
