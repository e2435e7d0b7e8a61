use Rattle.std.proofs.Common.{rules, ◌≡◌, ◌<◌, ◌≤◌, ℕ, List, [], ◌∷◌, ◌++◌, length, take, sym, ap, subst, ◌∙◌, arith}
use Rattle.std.proofs.lemmas.List.{take_more_set, length-take-le}
use Rattle.basil_types.specs.declared.party.Party.{Party}
use Rattle.premise_watch.specs.Rooms.{AreRoomy, CanCome, HasRoom}
use Rattle.premise_watch.proofs.RoomLaws.{comes, room_left}
use Rattle.premise_watch.proofs.faulty.Faulty.push.Goals as goal

-- there is room behind parties that fit
below : (parties : List Party) (len : ℕ) (p : Party) →
    length parties ≡ 1792 → HasRoom parties len → CanCome (take len parties) p → len < 1792
below parties len p full h can =
    let short = room_left (take len parties) p (comes (take len parties) p can h.fits) in
    let inside : len ≤ length parties = omega (arith, full, h.within) in
    omega (arith, short, length-take-le len parties inside)

pub bounds-self-inside-self-inside : goal.bounds-self-inside-self-inside
bounds-self-inside-self-inside c =
    let full : length c.self.inside.parties ≡ 1792 = search rules in
    below c.self.inside.parties c.self.inside.len c.args.party full c.self.invariant
    (subst (λ l. CanCome l c.args.party) (sym c.self.view_is) c.requires)

pub invariant_of-self : goal.invariant_of-self
invariant_of-self c =
    let parties = c.self.inside.parties in
    let len = c.self.inside.len in
    let full : length parties ≡ 1792 = search rules in
    let can = subst (λ l. CanCome l c.args.party) (sym c.self.view_is) c.requires in
    let short = below parties len c.args.party full c.self.invariant can in
    let inside : len < length parties = omega (arith, full, short) in
    record {
      within = omega (arith, short);
      fits = subst AreRoomy (sym (take_more_set parties len c.args.party inside))
          (comes (take len parties) c.args.party can c.self.invariant.fits);
    }

pub returns : goal.returns
returns c =
    let parties = c.self.inside.parties in
    let len = c.self.inside.len in
    let full : length parties ≡ 1792 = search rules in
    let can = subst (λ l. CanCome l c.args.party) (sym c.self.view_is) c.requires in
    let short = below parties len c.args.party full c.self.invariant can in
    let inside : len < length parties = omega (arith, full, short) in
    take_more_set parties len c.args.party inside ∙ ap (λ l. l ++ c.args.party ∷ []) c.self.view_is
