-- What a write of some bytes leaves.
use Rattle.std.proofs.Common.{◌≡◌, ℕ, ◌+◌, ◌-◌, ◌<◌, ◌≤◌, List, [], ◌∷◌, ◌++◌, length, get_or, take, drop}
use Rattle.std.proofs.Common.{arith, refl, sym, ap, subst, ◌∙◌, inl, inr, length-append, length-drop}
use Rattle.std.specs.Prelude.{◌%◌, replicate, slice_index, slice_range}
use Rattle.std.proofs.lemmas.List.{append-nil, drop_at, get_or-append_right, get_or-drop, get_or-take, get_or_append_left}
use Rattle.std.proofs.lemmas.List.{length-replicate, length-take-le, take_all, take_at}
use Rattle.journal_disk.specs.Disk.{DiskState, IsOutside, IsSameOutside, Tears, Writes}
use Rattle.std.proofs.lemmas.List.FromFn.{length-map-range_with_len, map-range_with_len_more}
use Rattle.journal_disk.specs.Contents.{padded, put_over, repeated, writes}

-- ---- zeros behind the end

pub padded_length : (count : ℕ) (xs : List ℕ) → length (padded count xs) ≡ length xs + (count - length xs)
padded_length count xs =
    length-append xs (replicate (count - length xs) 0) ∙ ap (λ n. length xs + n) (length-replicate (count - length xs) 0)

pub padded_same : (count : ℕ) (xs : List ℕ) → count ≤ length xs → padded count xs ≡ xs
padded_same count xs h =
    let none : count - length xs ≡ 0 = omega arith in
    ap (λ n. xs ++ replicate n 0) none ∙ append-nil xs

pub padded_more : (count : ℕ) (xs : List ℕ) → length xs ≤ count → take count xs ++ replicate (count - length xs) 0 ≡ padded count xs
padded_more count xs h = ap (λ ys. ys ++ replicate (count - length xs) 0) (take_all count xs h)

-- ---- bytes over those from a place on

module _ (at : ℕ) (bytes all : List ℕ) (fits : at + length bytes ≤ length all) where
  front_length : length (take at all) ≡ at
  front_length = length-take-le at all (omega arith)

  over_length : length (put_over at bytes all) ≡ length all
  over_length =
      let front = front_length in
      let whole = length-append (take at all) (bytes ++ drop (at + length bytes) all) in
      let behind = length-append bytes (drop (at + length bytes) all) in
      let rest = length-drop (at + length bytes) all in
      omega arith

  over_there : slice_range (put_over at bytes all) at (at + length bytes) ≡ bytes
  over_there =
      let n : (at + length bytes) - at ≡ length bytes = omega arith in
      ap (λ ys. take ((at + length bytes) - at) ys) (drop_at (take at all) (bytes ++ drop (at + length bytes) all) at front_length)
      ∙ take_at bytes (drop (at + length bytes) all) ((at + length bytes) - at) (sym n)

  over_before : (place : ℕ) → place < at → get_or (put_over at bytes all) place 0 ≡ get_or all place 0
  over_before place h =
      let front = front_length in
      get_or_append_left (take at all) (bytes ++ drop (at + length bytes) all) 0 place (omega arith) ∙ get_or-take at all place 0 h

  over_behind : (place : ℕ) → at + length bytes ≤ place → get_or (put_over at bytes all) place 0 ≡ get_or all place 0
  over_behind place h =
      let back : (at + length bytes) + ((place - at) - length bytes) ≡ place = omega arith in
      get_or-append_right (take at all) (bytes ++ drop (at + length bytes) all) at place 0 front_length (omega arith)
      ∙ get_or-append_right bytes (drop (at + length bytes) all) (length bytes) (place - at) 0 refl (omega arith)
      ∙ get_or-drop (at + length bytes) all ((place - at) - length bytes) 0
      ∙ ap (λ n. get_or all n 0) back

-- ---- a write

module _ (at : ℕ) (bytes xs : List ℕ) where
  fitting : at + length bytes ≤ length (padded (at + length bytes) xs)
  fitting = let long = padded_length (at + length bytes) xs in omega arith

  new_of : List ℕ
  new_of = put_over at bytes (padded (at + length bytes) xs)

  outside_at : (place : ℕ) → IsOutside at (length bytes) place →
      get_or (put_over at bytes (padded (at + length bytes) xs)) place 0 ≡ get_or (padded (at + length bytes) xs) place 0
  outside_at place o = elim o [
    | inl before ↦ over_before at bytes (padded (at + length bytes) xs) fitting place before
    | inr behind ↦ over_behind at bytes (padded (at + length bytes) xs) fitting place behind
  ]

  pub same_outside : IsSameOutside at (length bytes) xs (put_over at bytes (padded (at + length bytes) xs))
  same_outside = record {
    as_long =
        let long = padded_length (at + length bytes) xs in
        let over = over_length at bytes (padded (at + length bytes) xs) fitting in
        omega arith;
    same = λ place h o. outside_at place o ∙ get_or_append_left xs (replicate ((at + length bytes) - length xs) 0) 0 place h;
  }

  pub written_there : slice_range (put_over at bytes (padded (at + length bytes) xs)) at (at + length bytes) ≡ bytes
  written_there = over_there at bytes (padded (at + length bytes) xs) fitting

pub writes_are : (at : ℕ) (bytes : List ℕ) (s : DiskState) → Writes at bytes s (writes at bytes s)
writes_are at bytes s = record {
  past = refl;
  there = written_there at bytes s.contents;
  elsewhere = same_outside at bytes s.contents;
}

pub writes_tear : (at count : ℕ) (bytes : List ℕ) (s : DiskState) → length bytes ≡ count → Tears at count s (writes at bytes s)
writes_tear at count bytes s e =
    subst (λ n. Tears at n s (writes at bytes s)) e (record { past = refl; elsewhere = same_outside at bytes s.contents })

-- ---- bytes, repeated

pub repeated_length : (count : ℕ) (bytes : List ℕ) → length (repeated count bytes) ≡ count
repeated_length count bytes = length-map-range_with_len (λ place. slice_index bytes (place % length bytes)) 0 count

pub repeated_more : (count : ℕ) (bytes : List ℕ) →
    repeated (count + 1) bytes ≡ repeated count bytes ++ slice_index bytes (count % length bytes) ∷ []
repeated_more count bytes = map-range_with_len_more (λ place. slice_index bytes (place % length bytes)) 0 count count (omega arith)
