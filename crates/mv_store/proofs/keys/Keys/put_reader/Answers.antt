use Rattle.std.proofs.Common.{◌≡◌, ◌∙◌, sym, ap, refl, Some}
use Rattle.std.specs.Option.{option_copied_mut}
use Rattle.mv_store.specs.declared.index.KeyIndex.{KeyIndex}
use Rattle.mv_store.specs.Keys.{index_of}
use Rattle.mv_store.proofs.IndexLaws.{puts_reader, written}
use Rattle.mv_store.proofs.keys.Keys.put_reader.Goals as goal

pub returns-in-Some : goal.returns-in-Some
returns-in-Some c =
    let w : KeyIndex = record { writers = c.in-Some.index.now.writers; readers = c.put.new.self; noted = c.in-Some.index.now.noted } in
    let found : index_of c.args.self.now c.args.key.now ≡ Some c.in-Some.index.now = sym c.get_mut.ensures.value
    ∙ ap option_copied_mut c.in-Some.is in
    puts_reader c.args.self.now _ c.args.key.now c.args.version.now c.args.told c.in-Some.index.now w found
    (written c.args.self.now _ c.args.key.now c.in-Some.index.now w found (c.get_mut.follows.holds w).0) c.put.ensures refl refl
