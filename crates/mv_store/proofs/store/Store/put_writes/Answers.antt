use Rattle.std.proofs.Common.{◌∙◌, take, Some, refl, sym, subst}
use Rattle.std.specs.Prelude.{IsSome}
use Rattle.std.proofs.lemmas.List.Elements.{All-contains}
use Rattle.basil_types.specs.Shown.{transaction_of, write_of}
use Rattle.basil_types.specs.Transaction.{key_of_write}
use Rattle.mv_store.specs.Keys.{writer_slot}
use Rattle.mv_store.specs.Changes.{Puts, slot_of_write}
use Rattle.mv_store.proofs.Searches.{take_more}
use Rattle.mv_store.proofs.PutLaws.{puts_more, slot_stays, found_at, some_slot}
use Rattle.mv_store.proofs.store.Store.put_writes.Goals as goal

pub put_writer-requires : goal.put_writer-requires
put_writer-requires c =
    λ some.
    let writes = (transaction_of c.args.t).writes in
    let w = write_of c.in-Some.item in
    slot_stays key_of_write (slot_of_write c.args.told) (take c.loop-place.place writes) c.args.version.now
    (writer_slot c.args.self.now.keys) (writer_slot c.loop-place.self.keys) w.key c.loop-place.invariant.writers
    (λ x. some_slot Some c.args.told some)
    (All-contains (λ x. IsSome (writer_slot c.args.self.now.keys x.key c.args.version.now)) writes w
    (c.requires some) (found_at writes c.loop-place.place w (sym c.in-Some.ensures)))

pub loop-place-preserved : goal.loop-place-preserved
loop-place-preserved c =
    let writes = (transaction_of c.args.t).writes in
    let w = write_of c.in-Some.item in
    let put = c.put_writer.ensures in
    let so_far = c.loop-place.invariant in
    record {
      writers =
          subst (λ xs. Puts key_of_write (slot_of_write c.args.told) xs c.args.version.now (writer_slot c.args.self.now.keys)
          (writer_slot c.put_writer.new.self)) (sym (take_more writes c.loop-place.place w (sym c.in-Some.ensures)))
          (puts_more key_of_write (slot_of_write c.args.told)
          (take c.loop-place.place writes) w c.args.version.now (writer_slot c.args.self.now.keys)
          (writer_slot c.loop-place.self.keys) (writer_slot c.put_writer.new.self) so_far.writers put.writers (λ y h e. refl));
      readers = λ k v. put.readers k v ∙ so_far.readers k v;
      noted = λ k. put.noted k ∙ so_far.noted k;
      keys = λ k h. put.keys k (so_far.keys k h);
    }
