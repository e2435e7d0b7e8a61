-- Which replicas have voted.
use Rattle.std.proofs.Common.{◌≡◌, ℕ, ◌+◌, ◌-◌, ◌<◌, ◌≤◌, Bool, true, false, cond, List, [], ◌∷◌, ◌++◌, length, refl, sym, ap, ◌∙◌, subst}
use Rattle.std.proofs.Common.{arith, inl, inr, ◌⊎◌, zero, suc}
use Rattle.std.specs.Prelude.{filter, not, nat_eq, nat_lt, ◌==◌, ◌&&◌, ◌||◌, ◌≢◌}
use Rattle.std.specs.List.{list_any, list_all}
use Rattle.std.proofs.lemmas.Bool.{eqb-true}
use Rattle.std.proofs.lemmas.Bool.Decides.{eqb_tells, leb_tells}
use Rattle.std.proofs.lemmas.List.{length-append}
use Rattle.std.proofs.lemmas.List.Elements.{filter-append}
use Rattle.client_recover.specs.declared.votes.CountedVote.{CountedVote}
use Rattle.client_recover.specs.Counts.{VotersOf, count_at, has_place, is_at, place_of}
use Rattle.client_recover.specs.Kept.{has_voted, is_by}

some : (n : ℕ) → ((nat_eq (suc n) 0 ≡ true) × (suc n ≡ 0)) ⊎ ((nat_eq (suc n) 0 ≡ false) × (suc n ≢ 0)) → not (nat_eq (suc n) 0) ≡ true
some n (inl e) = absurd (let t = e.1 in omega (arith, t))
some n (inr e) = ap not e.0

-- some pass exactly where the number of those that do isn't 0
any_counted : (f : CountedVote → Bool) (vs : List CountedVote) → not (nat_eq (length (filter f vs)) 0) ≡ list_any f vs
any_counted f [] = refl
any_counted f (v ∷ vs) = by (f v) (any_counted f vs)
  where
    by : (b : Bool) → not (nat_eq (length (filter f vs)) 0) ≡ list_any f vs →
        not (nat_eq (length (cond b (v ∷ filter f vs) (filter f vs))) 0) ≡ (b || list_any f vs)
    by true e = some (length (filter f vs)) (eqb_tells (suc (length (filter f vs))) 0)
    by false e = e

-- places tell replicas apart
same_place : (s r : ℕ) (v : CountedVote) → r < 32 → has_place v ≡ true → is_at (place_of s r) v ≡ is_by s r v
same_place s r v low h = by (leb_tells (suc v.replica) 32) (eqb_tells (place_of v.shard v.replica) (place_of s r))
    (eqb_tells s v.shard) (eqb_tells r v.replica)
  where
    by : ((nat_lt v.replica 32 ≡ true) × (suc v.replica ≤ 32)) ⊎ ((nat_lt v.replica 32 ≡ false) × (32 < suc v.replica)) →
        (((place_of v.shard v.replica == place_of s r) ≡ true) × (place_of v.shard v.replica ≡ place_of s r)) ⊎
        (((place_of v.shard v.replica == place_of s r) ≡ false) × (place_of v.shard v.replica ≢ place_of s r)) →
        (((s == v.shard) ≡ true) × (s ≡ v.shard)) ⊎ (((s == v.shard) ≡ false) × (s ≢ v.shard)) →
        (((r == v.replica) ≡ true) × (r ≡ v.replica)) ⊎ (((r == v.replica) ≡ false) × (r ≢ v.replica)) →
        is_at (place_of s r) v ≡ is_by s r v
    by (inr far) p a b = absurd (let t : false ≡ true = sym far.0 ∙ h in cc)
    by (inl near) (inl p) (inl a) (inl b) = p.0 ∙ sym (ap (λ x. x && (r == v.replica)) a.0 ∙ b.0)
    by (inl near) (inl p) (inl a) (inr b) = absurd (let n = near.1 in let e = p.1 in let f = a.1 in b.1 (omega (arith, e, f, n, low)))
    by (inl near) (inl p) (inr a) b = absurd (let n = near.1 in let e = p.1 in a.1 (omega (arith, e, n, low)))
    by (inl near) (inr p) (inl a) (inl b) = absurd (let f = a.1 in let g = b.1 in p.1 (omega (arith, f, g)))
    by (inl near) (inr p) (inl a) (inr b) = p.0 ∙ sym (ap (λ x. x && (r == v.replica)) a.0 ∙ b.0)
    by (inl near) (inr p) (inr a) b = p.0 ∙ sym (ap (λ x. x && (r == v.replica)) a.0)

any_same : (s r : ℕ) (vs : List CountedVote) → r < 32 → list_all has_place vs ≡ true → list_any (is_at (place_of s r)) vs ≡ has_voted s r vs
any_same s r [] low h = refl
any_same s r (v ∷ vs) low h =
    ap (λ b. b || list_any (is_at (place_of s r)) vs) (same_place s r v low (both (has_place v) h).0)
    ∙ ap (λ b. is_by s r v || b) (any_same s r vs low (both (has_place v) h).1)
  where
    both : (b : Bool) → (b && list_all has_place vs) ≡ true → (b ≡ true) × (list_all has_place vs ≡ true)
    both true e = (refl, e)
    both false e = absurd cc

pub voted : (votes : List CountedVote) (counts : List ℕ) → VotersOf votes counts → (s r place count : ℕ) → r < 32 → place ≡ place_of s r →
    count ≡ count_at counts place → not (nat_eq count 0) ≡ has_voted s r votes
voted votes counts h s r place count low at is =
    ap (λ n. not (nat_eq n 0)) (is ∙ h.counted place)
    ∙ any_counted (is_at place) votes
    ∙ ap (λ p. list_any (is_at p) votes) at
    ∙ any_same s r votes low h.placed

-- ---- one vote more, and one less

one_more : (votes : List CountedVote) (v : CountedVote) (place : ℕ) →
    length (filter (is_at place) (votes ++ v ∷ [])) ≡ length (filter (is_at place) votes) + cond (is_at place v) 1 0
one_more votes v place =
    ap length (filter-append (is_at place) votes (v ∷ []))
    ∙ length-append (filter (is_at place) votes) (filter (is_at place) (v ∷ []))
    ∙ by (is_at place v)
  where
    by : (b : Bool) → length (filter (is_at place) votes) + length (cond b (v ∷ []) []) ≡ length (filter (is_at place) votes) + cond b 1 0
    by true = refl
    by false = refl

all_push : (votes : List CountedVote) (v : CountedVote) → list_all has_place (votes ++ v ∷ []) ≡ (list_all has_place votes && has_place v)
all_push [] v = by (has_place v)
  where
    by : (b : Bool) → (b && true) ≡ b
    by true = refl
    by false = refl
all_push (w ∷ votes) v = by (has_place w) (all_push votes v)
  where
    by : (b : Bool) → list_all has_place (votes ++ v ∷ []) ≡ (list_all has_place votes && has_place v) →
        (b && list_all has_place (votes ++ v ∷ [])) ≡ ((b && list_all has_place votes) && has_place v)
    by true e = e
    by false e = refl

left : (a b : Bool) → (a && b) ≡ true → a ≡ true
left true b h = refl
left false b h = absurd cc

right : (a b : Bool) → (a && b) ≡ true → b ≡ true
right true b h = h
right false b h = absurd cc

pub one_voter_more : (votes : List CountedVote) (v : CountedVote) (old new : List ℕ) → VotersOf votes old → has_place v ≡ true →
    ((place : ℕ) → count_at new place ≡ count_at old place + cond (place_of v.shard v.replica == place) 1 0) →
    VotersOf (votes ++ v ∷ []) new
one_voter_more votes v old new h low raised =
    record {
      counted = λ place. raised place ∙ ap (λ n. n + cond (is_at place v) 1 0) (h.counted place) ∙ sym (one_more votes v place);
      placed = all_push votes v ∙ ap (λ b. b && has_place v) h.placed ∙ low;
    }

pub one_voter_less : (votes : List CountedVote) (v : CountedVote) (old new : List ℕ) → VotersOf (votes ++ v ∷ []) old →
    ((place : ℕ) → count_at new place ≡ count_at old place - cond (place_of v.shard v.replica == place) 1 0) →
    VotersOf votes new
one_voter_less votes v old new h lowered =
    record {
      counted = λ place. back place (is_at place v) (lowered place) (h.counted place ∙ one_more votes v place);
      placed = left (list_all has_place votes) (has_place v) (sym (all_push votes v) ∙ h.placed);
    }
  where
    back : (place : ℕ) (b : Bool) → count_at new place ≡ count_at old place - cond b 1 0 →
        count_at old place ≡ length (filter (is_at place) votes) + cond b 1 0 → count_at new place ≡ length (filter (is_at place) votes)
    back place true a e = omega (arith, a, e)
    back place false a e = omega (arith, a, e)

zeros : (counts : List ℕ) (place : ℕ) → list_all (λ n. nat_eq n 0) counts ≡ true → count_at counts place ≡ 0
zeros [] place h = refl
zeros (n ∷ counts) zero h = eqb-true n 0 (left (nat_eq n 0) (list_all (λ n. nat_eq n 0) counts) h)
zeros (n ∷ counts) (suc place) h = zeros counts place (right (nat_eq n 0) (list_all (λ n. nat_eq n 0) counts) h)

pub no_voters : (votes : List CountedVote) (counts : List ℕ) → votes ≡ [] → list_all (λ n. nat_eq n 0) counts ≡ true → VotersOf votes counts
no_voters votes counts none h =
    subst (λ vs. VotersOf vs counts) (sym none) (record { counted = λ place. zeros counts place h; placed = refl })

-- of a replica that hasn't voted none is counted
pub first_voter : (votes : List CountedVote) (counts : List ℕ) → VotersOf votes counts → (s r place : ℕ) → r < 32 → place ≡ place_of s r →
    has_voted s r votes ≡ false → count_at counts place ≡ 0
first_voter votes counts h s r place low at first =
    zero_of (count_at counts place) (eqb_tells (count_at counts place) 0)
    (voted votes counts h s r place (count_at counts place) low at refl ∙ first)
  where
    zero_of : (n : ℕ) → ((nat_eq n 0 ≡ true) × (n ≡ 0)) ⊎ ((nat_eq n 0 ≡ false) × (n ≢ 0)) → not (nat_eq n 0) ≡ false → n ≡ 0
    zero_of n (inl e) h = e.1
    zero_of n (inr e) h = absurd (let t : true ≡ false = sym (ap not e.0) ∙ h in cc)
