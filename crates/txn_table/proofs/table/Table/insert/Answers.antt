use Rattle.std.proofs.Common.{◌≡◌, ℕ, ◌<◌, ◌++◌, [], ◌∷◌, Some, None, List, sym, ap, subst, ◌∙◌, arith}
use Rattle.std.specs.Str.{bytes_eq}
use Rattle.std.specs.Map.{keys_of}
use Rattle.std.specs.Prelude.{position, slice_get, option_map, length}
use Rattle.std.proofs.lemmas.Option.{same_Some}
use Rattle.basil_types.specs.Spare.{Spare}
use Rattle.basil_types.specs.declared.party.Party.{Party}
use Rattle.basil_types.specs.Shown.{transaction_of}
use Rattle.basil_types.specs.Transaction as transactions
use Rattle.basil_types.specs.Transaction.{TransactionValue}
use Rattle.indexmap.proofs.MapLemmas.{Missing-position, insert_entry-absent}
use Rattle.txn_table.specs.declared.entry.Entry.{Entry}
use Rattle.txn_table.specs.Entries.{EntryValue, arrived, proof_of}
use Rattle.txn_table.specs.Shown.{entry_of}
use Rattle.txn_table.specs.Tables.{TableValue, IsProofBelow, id_of, place_of}
use Rattle.txn_table.specs.Waiters.{Adds, waits_on}
use Rattle.txn_table.specs.Kept.{shown}
use Rattle.txn_table.proofs.Arriving.{shown-pushed, kept-pushed, last-at}
use Rattle.txn_table.proofs.table.Table.insert.Goals as goal

-- the entry goes last, with its own id as its key
appended : (c : goal.Joined-this)
    → c.insert.new.self.entries ≡ c.self.inside.entries.entries ++ (id_of (entry_of c.new-2.result), c.new-2.result) ∷ []
appended c =
    let m = c.self.inside.entries in
    let e : Entry = c.new-2.result in
    let id = transactions.id c.args.t in
    let key : c.in-Some.id ≡ id = same_Some c.in-Some.id id (sym c.in-Some.is ∙ ap (λ (t : TableValue). t.room) c.self.view_is
    ∙ c.requires.room) in
    let own : id_of (entry_of e) ≡ id = ap id_of c.new-2.ensures.entry in
    let absent : position (bytes_eq c.in-Some.id) (keys_of m.entries) ≡ None =
    ap (λ k. position (bytes_eq k) (keys_of m.entries)) key ∙ ap (position (bytes_eq id)) c.self.invariant.ids
    ∙ ap (λ (t : TableValue). place_of t.entries id) c.self.view_is ∙ c.requires.arrives in
    c.in-Ok.ensures.entries
    ∙ insert_entry-absent bytes_eq c.in-Some.id e m.entries (Missing-position (bytes_eq c.in-Some.id) m.entries absent).absent
    ∙ ap (λ k. m.entries ++ (k, e) ∷ []) (key ∙ sym own)

-- its place is listed at the ids that it depends on
adds : (c : goal.Joined-this) → Adds (waits_on c.new-2.result.transaction) c.self.inside.waiters c.list.new.self
    (length (shown c.self.inside.entries))
adds c =
    let place : c.len-place.result ≡ length (shown c.self.inside.entries) = c.len-place.ensures.value
    ∙ sym (ap (λ (t : TableValue). length t.entries) c.self.view_is) in
    let own : c.new-2.result.transaction ≡ c.args.t = ap (λ (e : EntryValue). e.transaction) c.new-2.ensures.entry in
    let shows : transaction_of c.view.result ≡ c.new-2.result.transaction = c.view.ensures.value ∙ sym own in
    subst (λ (t : TransactionValue). Adds (waits_on t) c.self.inside.waiters c.list.new.self (length (shown c.self.inside.entries))) shows
    (subst (Adds (waits_on (transaction_of c.view.result)) c.self.inside.waiters c.list.new.self) place c.list.ensures)

pub invariant_of-self : goal.invariant_of-self
invariant_of-self c =
    let m = c.self.inside.entries in
    let e : Entry = c.new-2.result in
    let id = transactions.id c.args.t in
    let own : id_of (entry_of e) ≡ id = ap id_of c.new-2.ensures.entry in
    let none : place_of (shown m) id ≡ None = ap (λ (t : TableValue). place_of t.entries id) c.self.view_is ∙ c.requires.arrives in
    let room : c.self.inside.room ≡ Some id = ap (λ (t : TableValue). t.room) c.self.view_is ∙ c.requires.room in
    let can = (c.self.invariant.made id room).entry none in
    let asks : 0 < c.replace-askers.result.room =
    omega (arith, can.asker, ap (λ (s : Spare Party). s.room) c.replace-askers.ensures.value) in
    let unproved : (n : ℕ) → IsProofBelow n (entry_of e) =
    λ n place at.
    let no : None ≡ Some place = sym (ap (λ (e : EntryValue). proof_of e.vote) c.new-2.ensures.entry) ∙ at in
    absurd cc in
    kept-pushed m c.insert.new.self e (appended c) c.self.inside.waiters c.list.new.self
    (adds c) c.self.inside.askers c.replace-askers.new.dest c.self.inside.room
    (ap (λ (s : Spare Party). s.items) c.replace-askers.ensures.after ∙ c.new.ensures)
    (c.new-2.ensures.room asks) unproved (room ∙ ap Some (sym own)) can c.self.invariant

pub returns-clause-table : goal.returns-clause-table
returns-clause-table c =
    let m = c.self.inside.entries in
    let e : Entry = c.new-2.result in
    let entries : shown c.insert.new.self ≡ shown m ++ arrived c.args.t ∷ [] =
    shown-pushed m c.insert.new.self e (appended c) ∙ ap (λ (e : EntryValue). shown m ++ e ∷ []) c.new-2.ensures.entry in
    ap (λ (es : List EntryValue). let t : TableValue = record { entries = es; room = c.self.inside.room } in t) entries
    ∙ ap (λ (t : TableValue). let t' : TableValue = record t { entries = t.entries ++ arrived c.args.t ∷ [] } in t') c.self.view_is

pub returns-clause-room : goal.returns-clause-room
returns-clause-room c =
    let m = c.self.inside.entries in
    let e : Entry = c.new-2.result in
    let entries : shown c.insert.new.self ≡ shown m ++ arrived c.args.t ∷ [] =
    shown-pushed m c.insert.new.self e (appended c) ∙ ap (λ (e : EntryValue). shown m ++ e ∷ []) c.new-2.ensures.entry in
    let place : c.len-place.result ≡ length (shown m) = c.len-place.ensures.value
    ∙ sym (ap (λ (t : TableValue). length t.entries) c.self.view_is) in
    let last : slice_get (shown c.insert.new.self) c.len-place.result ≡ Some (arrived c.args.t) =
    ap (λ (es : List EntryValue). slice_get es c.len-place.result) entries ∙ ap (slice_get (shown m ++ arrived c.args.t ∷ [])) place
    ∙ last-at (shown m) (arrived c.args.t) in
    ap (λ (t : TableValue). t.room) c.self.view_is ∙ c.requires.room ∙ sym (ap (option_map id_of) last)
