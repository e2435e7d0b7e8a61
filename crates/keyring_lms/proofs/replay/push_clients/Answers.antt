use Rattle.std.proofs.Common.{◌≡◌, [], ◌∷◌, ◌+◌, ◌-◌, ◌≤◌, map, refl, arith, append_assoc}
use Rattle.std.proofs.lemmas.List.FromFn.{map-range_with_len_more}
use Rattle.std.specs.List.{range_with_len}
use Rattle.basil_types.specs.declared.party.Party.TheVariants.{Client}
use Rattle.keyring_lms.proofs.replay.push_clients.Goals as goal

pub loop-number-preserved : goal.loop-number-preserved
loop-number-preserved c =
    let k = c.loop-number.number in
    let from : 1 ≤ k = c.loop-number.auto.number in
    let next : k + 1 - 1 ≡ k - 1 + 1 = omega (arith, from) in
    let more = map-range_with_len_more (λ number. Client number) 1 (k - 1) k (omega (arith, from)) in
    rw (c.in_ok-push.ensures.items, c.loop-number.invariant, next, more)
    (append_assoc c.args.parties.now.items (map (λ number. Client number) (range_with_len 1 (k - 1))) (Client k ∷ []))

pub returns : goal.returns
returns c =
    let all : c.loop-number.number ≡ 17 = omega arith in
    rw (c.loop-number.invariant, all) refl
