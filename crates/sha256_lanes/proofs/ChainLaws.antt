-- One place further on, in a chain's way.
use Rattle.std.proofs.Common.{◌≡◌, ℕ, suc, ◌+◌, ◌-◌, min, List, nat_lt, true, false, if◌then◌else◌, arith, refl, inl, inr}
use Rattle.std.proofs.lemmas.Bool.{cases_lt, lt-ltb, le-ltb}
use Rattle.sha2.specs.Sha256.{digest_bytes, sha256}
use Rattle.sha256_lanes.specs.declared.lanes.Lane.{Lane}
use Rattle.sha256_lanes.specs.Chains.{steps, step_of, end_of_lane, message_of_lane}

pub one_place : (head : List ℕ) (i j from to : ℕ) (begin old next : List ℕ)
    → digest_bytes old 8 ≡ steps head i from (min j to - from) begin
    → digest_bytes next 8 ≡ step_of head i j (digest_bytes old 8)
    → digest_bytes (if nat_lt j from then old else (if nat_lt j to then next else old)) 8 ≡ steps head i from (min (j + 1) to - from) begin
unfolding steps
one_place head i j from to begin old next held stepped = elim (cases_lt j from) [
  | inl before ↦
      let is : nat_lt j from ≡ true = lt-ltb j from before in
      let same : min (j + 1) to - from ≡ min j to - from = omega arith in
      rw (is, same) held
  | inr after ↦
      let is : nat_lt j from ≡ false = le-ltb j from after in
      elim (cases_lt j to) [
        | inl inside ↦
            let yes : nat_lt j to ≡ true = lt-ltb j to inside in
            let more : min (j + 1) to - from ≡ suc (min j to - from) = omega arith in
            let at : from + (min j to - from) ≡ j = omega arith in
            rw (is, yes, more, at, ← held) stepped
        | inr past ↦
            let no : nat_lt j to ≡ false = le-ltb j to past in
            let same : min (j + 1) to - from ≡ min j to - from = omega arith in
            rw (is, no, same) held
      ]
]

-- a lane of one step
pub one_step : (head : List ℕ) (lane : Lane) → lane.last ≡ lane.place + 1 → end_of_lane head lane ≡ sha256 (message_of_lane head lane)
unfolding steps step_of
one_step head lane one =
    let single : lane.last - lane.place ≡ 1 = omega (arith, one) in
    let here : lane.place + 0 ≡ lane.place = omega arith in
    rw (single, here) refl
