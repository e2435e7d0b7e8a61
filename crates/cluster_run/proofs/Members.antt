-- Members of lists: the element is named before the list.
use Rattle.std.proofs.Common.{◌≡◌, Bool, true, List, ◌∷◌, ◌⊎◌}
use Rattle.std.specs.Prelude.{Contains}
use Rattle.std.specs.List.{list_any}
use Rattle.basil_types.proofs.MemberLaws as members

pub in_head : {X : Type 0} (x : X) (xs : List X) → Contains (x ∷ xs) x
in_head x xs = members.in_head x xs

pub in_rest : {X : Type 0} (x y : X) (xs : List X) → Contains xs y → Contains (x ∷ xs) y
in_rest x y xs h = members.in_tail x xs y h

pub in_cases : {X : Type 0} (x y : X) (xs : List X) → Contains (y ∷ xs) x → (y ≡ x) ⊎ Contains xs x
in_cases x y xs h = members.in_cases y xs x h

-- an element that passes
pub record Some_of {X : Type 0} (p : X → Bool) (xs : List X) : Type 0 where
  pub one : X
  pub among : Contains xs one
  pub passes : p one ≡ true

pub some_of : {X : Type 0} (p : X → Bool) (xs : List X) → list_any p xs ≡ true → Some_of p xs
some_of p xs h = let o = members.hit_of p xs h in record { one = o.0; among = o.1; passes = o.2 }

pub any_of : {X : Type 0} (p : X → Bool) (xs : List X) (x : X) → Contains xs x → p x ≡ true → list_any p xs ≡ true
any_of p xs x i h = members.hit_from p xs x i h
