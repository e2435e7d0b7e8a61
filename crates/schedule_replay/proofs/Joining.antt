-- A faulty party that may join leaves at most f of each shard.
use Rattle.std.proofs.Common.{◌≡◌, ℕ, ◌+◌, ◌≤◌, ◌<◌, Bool, true, false, cond, List, [], ◌∷◌, ◌++◌, not, refl, ap, subst, arith}
use Rattle.std.specs.Prelude.{◌||◌, ◌==◌, nat_le}
use Rattle.std.specs.List.{count_by}
use Rattle.std.proofs.lemmas.Bool.{eqb-true, leb-false}
use Rattle.std.proofs.lemmas.List.Sums.{sum_by_push}
use Rattle.basil_types.specs.declared.party.Party.{Party}
use Rattle.basil_types.specs.declared.party.Party.TheVariants.{Replica, Client}
use Rattle.premise_watch.specs.Parties.{is_among, is_of_shard, count_of_shard, can_join, AreCounted}

abbrev ones : Bool → ℕ
ones b = cond b 1 0

count_push : (p : Party → Bool) (xs : List Party) (x : Party) → count_by p (xs ++ x ∷ []) ≡ count_by p xs + ones (p x)
count_push p xs x = sum_by_push (λ x. ones (p x)) xs x

neither : (a b : Bool) → not (a || b) ≡ true → b ≡ false
neither true b h = absurd cc
neither false true h = absurd cc
neither false false h = refl

pub joins_few : (f : ℕ) (ps : List Party) (p : Party) → can_join f ps p ≡ true → AreCounted f ps → AreCounted f (ps ++ p ∷ [])
joins_few f ps (Client number) h few shard =
    let c : count_of_shard shard (ps ++ Client number ∷ []) ≡ count_of_shard shard ps + 0 =
    count_push (is_of_shard shard) ps (Client number) in
    omega (arith, c, few shard)
joins_few f ps (Replica s index) h few shard = by (s == shard) refl
  where
    left : count_of_shard s ps < f
    left = leb-false f (count_of_shard s ps) (neither (is_among ps (Replica s index)) (nat_le f (count_of_shard s ps)) h)

    c : count_of_shard shard (ps ++ Replica s index ∷ []) ≡ count_of_shard shard ps + ones (s == shard)
    c = count_push (is_of_shard shard) ps (Replica s index)

    by : (b : Bool) → (s == shard) ≡ b → count_of_shard shard (ps ++ Replica s index ∷ []) ≤ f
    by true e =
        let same : s ≡ shard = eqb-true s shard e in
        let l : count_of_shard shard ps < f = subst (λ x. count_of_shard x ps < f) same left in
        let o : ones (s == shard) ≡ 1 = ap ones e in
        omega (arith, c, l, o)
    by false e = let o : ones (s == shard) ≡ 0 = ap ones e in omega (arith, c, few shard, o)
