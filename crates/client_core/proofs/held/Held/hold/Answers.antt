use Rattle.std.proofs.Common.{◌∙◌, ℕ, Option, List, [], ◌∷◌, ◌++◌, map, ap, refl, subst, sym}
use Rattle.client_core.specs.Clusters.{AreOf}
use Rattle.client_core.specs.Finding.{id_in}
use Rattle.client_core.proofs.HeldLaws.{are_pushed, held_more, most_pushed, pushed_ids}
use Rattle.client_core.proofs.held.Held.hold.Goals as goal

pub returns-clause-shown : goal.returns-clause-shown
returns-clause-shown c = λ v after h more.
    held_more c.args.self.now _ c.args.recovered v after more.0 h more.2 refl c.push_reserved.ensures.items more.1

pub invariant_of-self : goal.invariant_of-self
invariant_of-self c =
    let held = c.args.self.now in
    record {
      clusters =
          subst (AreOf held.cluster) (sym c.push_reserved.ensures.items)
          (are_pushed held.cluster held.slots.items c.args.recovered held.clusters c.requires.cluster);
      most = most_pushed held.slots.items _ c.args.recovered c.requires.room.1 c.push_reserved.ensures.items;
      named =
          c.push_reserved-2.ensures.items
          ∙ ap (λ (o : Option (List ℕ)). held.ids.items ++ o ∷ []) c.id-id.ensures
          ∙ pushed_ids held.ids.items held.slots.items c.args.recovered held.named
          ∙ ap (map id_in) (sym c.push_reserved.ensures.items);
    }
