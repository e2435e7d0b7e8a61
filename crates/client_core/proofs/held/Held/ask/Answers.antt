use Rattle.std.proofs.Common.{List, [], refl, sym, subst}
use Rattle.client_core.specs.declared.asking.Asking.{Asking}
use Rattle.client_core.specs.Clients.{AskedRead}
use Rattle.client_core.specs.Showing.{KeepsReads}
use Rattle.client_core.specs.Slots.{put_read}
use Rattle.client_core.specs.Works.{asks}
use Rattle.client_core.proofs.HeldLaws.{are_set, got, held_changes, most_set, put_keeps, set_ids, slot_reads}
use Rattle.client_core.proofs.held.Held.ask.Goals as goal

pub returns-clause-shown : goal.returns-clause-shown
returns-clause-shown c = λ v after h changes.
    let held = c.args.self.now in
    let x = c.index_mut-slot.result.now in
    let r : AskedRead = record { key = c.args.asked.key; replies = [] } in
    held_changes held _ c.args.slot x _ (got held.slots.items c.args.slot x c.requires.held c.index_mut-slot.ensures.value)
    refl refl (asks c.args.asked)
    (λ s shows. slot_reads x _ s (put_read r s.reads) shows refl
    (subst (λ (l : List Asking). KeepsReads l (put_read r s.reads)) (sym c.put_reserved.ensures)
    (put_keeps x.reads.items s.reads c.args.asked r shows.reads c.requires.none)))
    v after h changes

pub invariant_of-self : goal.invariant_of-self
invariant_of-self c =
    let held = c.args.self.now in
    let x = c.index_mut-slot.result.now in
    record {
      clusters =
          are_set held.cluster held.slots.items c.args.slot x _
          (got held.slots.items c.args.slot x c.requires.held c.index_mut-slot.ensures.value) (λ of. of) held.clusters;
      most = most_set held.slots.items c.args.slot _ held.most;
      named = set_ids held.ids.items held.slots.items c.args.slot x _
          (got held.slots.items c.args.slot x c.requires.held c.index_mut-slot.ensures.value) refl held.named;
    }
