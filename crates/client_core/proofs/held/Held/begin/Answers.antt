use Rattle.std.proofs.Common.{◌∙◌, ℕ, Option, List, [], ◌∷◌, ◌++◌, map, refl, sym, ap, subst}
use Rattle.client_core.specs.declared.held.Slot.{Slot}
use Rattle.client_core.specs.Clusters.{AreOf}
use Rattle.client_core.specs.Finding.{id_formed, id_in}
use Rattle.client_core.proofs.HeldLaws.{are_pushed, begun_shows, most_pushed, none_of, pushed_ids}
use Rattle.client_core.proofs.ShowingLaws.{slots_count}
use Rattle.client_core.proofs.held.Held.begin.Goals as goal

pub returns-clause-shown : goal.returns-clause-shown
returns-clause-shown c = λ v h.
    begun_shows c.args.self.now _ c.begun.result v c.args.time h refl
    (c.push_reserved.ensures.items ∙ ap (λ (l : List Slot). l ++ c.begun.result ∷ []) c.in_ok-slot.ensures.same.1)
    c.begun.ensures.value c.begun.ensures.reads c.begun.ensures.formed

pub returns-clause-slot : goal.returns-clause-slot
returns-clause-slot c = λ v h. c.in_ok-slot.ensures.slot ∙ slots_count c.args.self.now.slots.items v.slots h.slots

pub invariant_of-self : goal.invariant_of-self
invariant_of-self c =
    let held = c.room_for_slot.new.self in
    record {
      clusters =
          subst (AreOf held.cluster) (sym c.push_reserved.ensures.items)
          (are_pushed held.cluster held.slots.items c.begun.result held.clusters
          (none_of held.cluster c.begun.result.formed c.begun.ensures.formed));
      most = most_pushed held.slots.items _ c.begun.result c.in_ok-slot.ensures.room.1 c.push_reserved.ensures.items;
      named =
          c.push_reserved-2.ensures.items
          ∙ ap (λ (o : Option (List ℕ)). held.ids.items ++ o ∷ []) (sym (ap id_formed c.begun.ensures.formed))
          ∙ pushed_ids held.ids.items held.slots.items c.begun.result held.named
          ∙ ap (map id_in) (sym c.push_reserved.ensures.items);
    }
