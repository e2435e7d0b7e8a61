-- Facts about chains that go side by side.
use Rattle.std.proofs.Common.{◌≡◌, ℕ, ◌+◌, ◌<◌, List, [], length, slice_index_or, slice_set, subst, ap, ◌∙◌, sym, arith, inl, inr}
use Rattle.std.proofs.lemmas.Bool.{cases_lt, cases_eq}
use Rattle.std.proofs.lemmas.List.{get_or-set_same, get_or-set_other, get_or_default}
use Rattle.std.proofs.lemmas.List.Elements.{Contains-get_or}
use Rattle.std.proofs.lemmas.List.Sorted.{All-permutation, Contains-permutation, length_permutation}
use Rattle.std.specs.List.{All}
use Rattle.std.specs.List.Sorted.{IsPermutation}
use Rattle.sha256_lanes.specs.declared.lanes.Lane.{Lane}
use Rattle.sha256_lanes.specs.Chains.{idle, lane_of}
use Rattle.lms_ots.specs.declared.sets.OtsSet.{OtsSet}
use Rattle.lms_ots.specs.declared.sets.OtsSet.TheVariants.{W4, W8}
use Rattle.lms_ots.specs.Sets.{chains_of}
use Rattle.lms_ots.specs.Lanes.{IsNumbered}

-- one more lane's end, written at the number of its chain
pub set-keeps : (ends : List (List ℕ)) (order : List Lane) (E : ℕ → List ℕ) (n : ℕ) (v : List ℕ) → length ends ≡ 72
    → (lane_of order n).chain < 72 → v ≡ E ((lane_of order n).chain)
    → ((m : ℕ) → m < n → slice_index_or ends (lane_of order m).chain [] ≡ E ((lane_of order m).chain))
    → (m : ℕ) → m < n + 1
    → slice_index_or (slice_set ends (lane_of order n).chain v) (lane_of order m).chain [] ≡ E ((lane_of order m).chain)
set-keeps ends order E n v size bound right before m lt =
    let at : ℕ = (lane_of order n).chain in
    let here : ℕ = (lane_of order m).chain in
    elim (cases_eq here at) [
      | inl same ↦ subst (λ (p : ℕ). slice_index_or (slice_set ends at v) p [] ≡ E p)
          (sym same) (get_or-set_same ends at v [] (omega (arith, size, bound)) ∙ right)
      | inr other ↦
          let older : m < n = elim (cases_lt m n) [
            | inl below ↦ below
            | inr above ↦ let last : m ≡ n = omega arith in absurd (other (ap (λ (p : ℕ). (lane_of order p).chain) last))
          ] in
          get_or-set_other ends at here v [] other ∙ before m older
    ]

-- lanes in another order: each is the lane of its chain, and none is missing
abbrev known : List Lane → Lane → Type 0
known lanes s = (s.chain < 72) × (lane_of lanes s.chain ≡ s)

all-known : (lanes : List Lane) → length lanes ≡ 72 → IsNumbered lanes → All (known lanes) lanes
all-known lanes size numbered k d lt =
    let low : k < 72 = omega (arith, size, lt) in
    let same : slice_index_or lanes k d ≡ lane_of lanes k = get_or_default lanes k d idle lt in
    let number : (slice_index_or lanes k d).chain ≡ k = ap (λ (s : Lane). s.chain) same ∙ numbered k low in
    (subst (λ (p : ℕ). p < 72) (sym number) low, ap (lane_of lanes) number ∙ sym same)

pub moved-known : (lanes order : List Lane) →
    length lanes ≡ 72 → IsNumbered lanes → IsPermutation lanes order → (m : ℕ) → m < 72 → known lanes (lane_of order m)
moved-known lanes order size numbered moves m lt =
    All-permutation (known lanes) lanes order moves
    (all-known lanes size numbered) m idle (omega (arith, size, lt, length_permutation lanes order moves))

pub moved-bound : (lanes order : List Lane) →
    length lanes ≡ 72 → IsNumbered lanes → IsPermutation lanes order → (m : ℕ) → m < 72 → (lane_of order m).chain < 72
moved-bound lanes order size numbered moves m lt = (moved-known lanes order size numbered moves m lt).0

pub moved-same : (lanes order : List Lane) → length lanes ≡ 72 → IsNumbered lanes → IsPermutation lanes order → (m : ℕ) → m < 72
    → lane_of lanes (lane_of order m).chain ≡ lane_of order m
moved-same lanes order size numbered moves m lt = (moved-known lanes order size numbered moves m lt).1

pub moved-all : (lanes order : List Lane) → length lanes ≡ 72 → IsPermutation lanes order → (i : ℕ) → i < 72
    → (m : ℕ) × (m < 72) × (lane_of order m ≡ lane_of lanes i)
moved-all lanes order size moves i lt =
    let there = Contains-permutation lanes order (lane_of lanes i) moves (Contains-get_or lanes i idle (omega (arith, size, lt))) in
    let inside : there.0 < 72 = omega (arith, size, there.1, length_permutation lanes order moves) in
    (there.0, inside, get_or_default order there.0 idle (lane_of lanes i) there.1 ∙ there.2)

-- each chain of a set has a lane
pub chains-low : (set : OtsSet) (i : ℕ) → i < chains_of set → i < 72
chains-low W4 i lt = omega arith
chains-low W8 i lt = omega arith
