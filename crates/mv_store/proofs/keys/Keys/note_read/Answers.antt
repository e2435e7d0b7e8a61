use Rattle.std.proofs.Common.{◌≡◌, ◌∙◌, sym, ap, Some}
use Rattle.std.specs.Option.{option_copied_mut}
use Rattle.mv_store.specs.declared.index.KeyIndex.{KeyIndex}
use Rattle.mv_store.specs.Keys.{index_of}
use Rattle.mv_store.proofs.IndexLaws.{notes, written}
use Rattle.mv_store.proofs.keys.Keys.note_read.Goals as goal

pub returns : goal.returns
returns c =
    let w : KeyIndex = c.note_read.new.self in
    let is = c.note_read.ensures in
    let found : index_of c.args.self.now c.args.key.now ≡ Some c.in-Some.index.now = sym c.get_mut.ensures.value
    ∙ ap option_copied_mut c.in-Some.is in
    notes c.args.self.now _ c.args.key.now (c.args.time, c.args.client) c.in-Some.index.now w found
    (written c.args.self.now _ c.args.key.now c.in-Some.index.now w found (c.get_mut.follows.holds w).0)
    (ap (λ i. i.writers) is) (ap (λ i. i.readers) is) (ap (λ i. i.noted) is)
