use Rattle.std.proofs.Common.{◌≡◌, ◌<◌, List, length, sym, ap, subst, ◌∙◌}
use Rattle.txn_table.specs.Entries.{EntryValue, voted, proof_of}
use Rattle.txn_table.specs.Tables.{TableValue, changed}
use Rattle.txn_table.proofs.Keeping.{shown-changed, room-changed, kept-changed}
use Rattle.txn_table.proofs.table.Table.set_vote.Goals as goal

pub invariant_of-self : goal.invariant_of-self
invariant_of-self c =
    let e = c.index_mut-entry.result.now in
    let w = c.set_vote.new.self in
    let same : w.transaction ≡ e.transaction = ap (λ (e : EntryValue). e.transaction) c.set_vote.ensures.entry in
    kept-changed c.self.inside.entries c.self.inside.askers
    c.args.place e w c.index_mut-entry.ensures.value same c.self.inside.room c.self.inside.room
    (λ at is. subst (λ es. at < length es) (sym (ap (λ (t : TableValue). t.entries) c.self.view_is))
    (c.requires.proof at (sym (ap (λ (e : EntryValue). proof_of e.vote) c.set_vote.ensures.entry) ∙ is)))
    (λ id is. room-changed c.self.inside.entries c.self.inside.askers c.args.place e w c.index_mut-entry.ensures.value same id
    (λ _. c.set_vote.ensures.room) (c.self.invariant.made id is))
    c.self.invariant

pub returns : goal.returns
returns c =
    let e = c.index_mut-entry.result.now in
    let w = c.set_vote.new.self in
    let same : w.transaction ≡ e.transaction = ap (λ (e : EntryValue). e.transaction) c.set_vote.ensures.entry in
    let f : EntryValue → EntryValue = voted c.args.vote c.args.signature.items c.args.proof in
    ap (λ (es : List EntryValue). let t : TableValue = record { entries = es; room = c.self.inside.room } in t) (shown-changed
    c.self.inside.entries c.self.inside.askers c.args.place e w c.index_mut-entry.ensures.value same f c.set_vote.ensures.entry)
    ∙ ap (λ (t : TableValue). let t' : TableValue = record t { entries = changed f c.args.place t.entries } in t') c.self.view_is
