use Rattle.std.proofs.Common.{◌∙◌, cond, take, Some, sym, ap, subst, arith}
use Rattle.std.specs.Prelude.{IsSome, ◌&&◌}
use Rattle.std.specs.Str.{bytes_eq}
use Rattle.std.proofs.lemmas.List.Elements.{All-contains}
use Rattle.basil_types.specs.Shown.{transaction_of, read_of}
use Rattle.basil_types.specs.Transaction.{key_of_read}
use Rattle.basil_types.specs.Version.{same_version}
use Rattle.mv_store.specs.Keys.{reader_slot}
use Rattle.mv_store.specs.Changes.{Puts, PutsReads, slot_of_read, reader_of}
use Rattle.mv_store.proofs.Searches.{take_more, take_all}
use Rattle.mv_store.proofs.PutLaws.{puts_more, slot_stays, reads_apart, found_at, some_slot, some_told, twice}
use Rattle.mv_store.proofs.store.Store.put_reads.Goals as goal

pub put_reader-requires : goal.put_reader-requires
put_reader-requires c =
    λ some.
    let reads = (transaction_of c.args.t).reads in
    let r = read_of c.in-Some.item in
    let told = some_told (reader_of r) c.args.told c.reader_of-reader.result c.reader_of-reader.ensures some in
    slot_stays key_of_read (slot_of_read c.args.told) (take c.loop-place.place reads) c.args.version.now
    (reader_slot c.args.self.now.keys) (reader_slot c.loop-place.self.keys) r.key c.loop-place.invariant.readers
    (λ x. some_slot (λ e. Some (reader_of x e)) c.args.told told)
    (All-contains (λ x. IsSome (reader_slot c.args.self.now.keys x.key c.args.version.now)) reads r
    (c.requires told) (found_at reads c.loop-place.place r (sym c.in-Some.ensures)))

pub loop-place-preserved : goal.loop-place-preserved
loop-place-preserved c =
    let reads = (transaction_of c.args.t).reads in
    let r = read_of c.in-Some.item in
    let put = c.put_reader.ensures in
    let so_far = c.loop-place.invariant in
    let slot = twice (reader_of r) Some c.args.told c.reader_of-reader.result c.reader_of-reader.ensures in
    record {
      writers = λ k v. put.writers k v ∙ so_far.writers k v;
      readers =
          subst (λ xs. Puts key_of_read (slot_of_read c.args.told) xs c.args.version.now (reader_slot c.args.self.now.keys)
          (reader_slot c.put_reader.new.self)) (sym (take_more reads c.loop-place.place r (sym c.in-Some.ensures)))
          (puts_more key_of_read (slot_of_read c.args.told) (take c.loop-place.place reads) r c.args.version.now
          (reader_slot c.args.self.now.keys) (reader_slot c.loop-place.self.keys) (reader_slot c.put_reader.new.self) so_far.readers
          (λ k v. put.readers k v
          ∙ ap (λ s. cond (bytes_eq r.key k && same_version c.args.version.now v) s (reader_slot c.loop-place.self.keys k v)) slot)
          (λ y h e. reads_apart _ reads c.loop-place.place r y c.bytes.ensures.in_range.reads (sym c.in-Some.ensures) h e));
      noted = λ k. put.noted k ∙ so_far.noted k;
      keys = λ k h. put.keys k (so_far.keys k h);
    }

pub returns : goal.returns
returns c =
    let reads = (transaction_of c.args.t).reads in
    subst (λ xs. PutsReads c.args.self.now.keys c.loop-place.self.keys xs c.args.version.now c.args.told)
    (take_all reads c.loop-place.place (omega (arith, c.bytes.ensures.in_range.few_reads))) c.loop-place.invariant
