use Rattle.std.proofs.Common.{◌∙◌, sym, ap, subst}
use Rattle.std.specs.Prelude.{All, IsSome, is_some}
use Rattle.std.proofs.lemmas.List.Elements.{All-weaker}
use Rattle.basil_types.specs.Shown.{transaction_of}
use Rattle.mv_store.specs.Keys.{reader_slot}
use Rattle.mv_store.proofs.store.Store.tell.Goals as goal

pub put_reads-requires : goal.put_reads-requires
put_reads-requires c =
    λ some.
    let reads = (transaction_of c.args.t).reads in
    let version = c.version_of-version.result in
    All-weaker (λ r. IsSome (reader_slot c.args.self.now.keys r.key version)) (λ r. IsSome
    (reader_slot c.put_writes.new.self.keys r.key version)) (λ r h. ap is_some (c.put_writes.ensures.readers r.key version) ∙ h) reads
    (subst (λ z. All (λ r. IsSome (reader_slot c.args.self.now.keys r.key z)) reads)
    (sym c.version_of-version.ensures) (c.requires some).reads)
