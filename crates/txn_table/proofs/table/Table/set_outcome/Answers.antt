use Rattle.std.proofs.Common.{◌≡◌, List, sym, ap, ◌∙◌}
use Rattle.txn_table.specs.Entries.{EntryValue, decided, proof_of}
use Rattle.txn_table.specs.Tables.{TableValue, changed}
use Rattle.txn_table.proofs.Keeping.{proof-at, shown-changed, room-changed, kept-changed}
use Rattle.txn_table.proofs.table.Table.set_outcome.Goals as goal

pub invariant_of-self : goal.invariant_of-self
invariant_of-self c =
    let m = c.self.inside.entries in
    let e = c.index_mut-entry.result.now in
    let w = c.set_outcome.new.self in
    let at = c.index_mut-entry.ensures.value in
    let same : w.transaction ≡ e.transaction = ap (λ (e : EntryValue). e.transaction) c.set_outcome.ensures.entry in
    kept-changed m c.self.inside.askers c.args.place e w at same c.self.inside.room c.self.inside.room
    (λ place is. proof-at m c.self.inside.askers c.self.inside.room c.args.place e at c.self.invariant place
    (sym (ap (λ (e : EntryValue). proof_of e.vote) c.set_outcome.ensures.entry) ∙ is))
    (λ id is. room-changed m c.self.inside.askers c.args.place e w at same id (λ h. c.set_outcome.ensures.room
    ∙ h) (c.self.invariant.made id is))
    c.self.invariant

pub returns : goal.returns
returns c =
    let e = c.index_mut-entry.result.now in
    let w = c.set_outcome.new.self in
    let same : w.transaction ≡ e.transaction = ap (λ (e : EntryValue). e.transaction) c.set_outcome.ensures.entry in
    let f : EntryValue → EntryValue = decided c.args.outcome c.args.certificate.items in
    ap (λ (es : List EntryValue). let t : TableValue = record { entries = es; room = c.self.inside.room } in t) (shown-changed
    c.self.inside.entries c.self.inside.askers c.args.place e w c.index_mut-entry.ensures.value same f c.set_outcome.ensures.entry)
    ∙ ap (λ (t : TableValue). let t' : TableValue = record t { entries = changed f c.args.place t.entries } in t') c.self.view_is
