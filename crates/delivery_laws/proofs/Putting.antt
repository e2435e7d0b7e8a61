-- A replica is put at its place.
use Rattle.std.proofs.Common.{◌≡◌, ◌∙◌, ℕ, ◌==◌, Bool, true, false, cond, List, [], ◌∷◌, Option, Some, None, map, refl, sym, ap, subst}
use Rattle.std.proofs.lemmas.Bool.{eqb-true}
use Rattle.std.proofs.lemmas.Option.{same_Some}
use Rattle.std.specs.Prelude.{◌&&◌, find, option_map}
use Rattle.cluster_run.specs.States.{Standing, is_at, put_standing}
use Rattle.delivery_laws.specs.Laws.{place_of}

-- where a replica is
pub record IsHere (a b : ℕ) (x : Standing) : Type 0 where
  pub shard : x.shard ≡ a
  pub index : x.index ≡ b

both : (a b : Bool) → (a && b) ≡ true → (a ≡ true) × (b ≡ true)
both true b h = (refl, h)
both false b h = absurd cc

pub is_here : (a b : ℕ) (x : Standing) → is_at a b x ≡ true → IsHere a b x
is_here a b x h =
    let e = both (x.shard == a) (x.index == b) h in
    record { shard = eqb-true x.shard a e.0; index = eqb-true x.index b e.1 }

-- what is found is at its place
pub found_there : (a b : ℕ) (xs : List Standing) (x : Standing) → find (is_at a b) xs ≡ Some x → is_at a b x ≡ true
found_there a b [] x h = absurd cc
found_there a b (y ∷ ys) x h = by (found_there a b ys x) (is_at a b y) refl h
  where
    by : (find (is_at a b) ys ≡ Some x → is_at a b x ≡ true) → (t : Bool) → is_at a b y ≡ t →
        cond t (Some y) (find (is_at a b) ys) ≡ Some x → is_at a b x ≡ true
    by later true t k = subst (λ z. is_at a b z ≡ true) (same_Some y x k) t
    by later false t k = later k

-- what is found at a place is found at its own
pub found_own : (a b : ℕ) (xs : List Standing) (x : Standing) → find (is_at a b) xs ≡ Some x → find (is_at x.shard x.index) xs ≡ Some x
found_own a b xs x h =
    let here = is_here a b x (found_there a b xs x h) in
    ap (λ (n : ℕ). find (is_at n x.index) xs) here.shard ∙ ap (λ (n : ℕ). find (is_at a n) xs) here.index ∙ h

-- a replica at the place of another one passes the same test
same_test : (a b : ℕ) (x y : Standing) → is_at x.shard x.index y ≡ true → is_at a b y ≡ is_at a b x
same_test a b x y h =
    let here = is_here x.shard x.index y h in
    ap (λ (n : ℕ). (n == a) && (y.index == b)) here.shard ∙ ap (λ (n : ℕ). (x.shard == a) && (n == b)) here.index

module _ (a b : ℕ) (x : Standing) where
  -- the replica that is found after another one is put at its place
  abbrev pub put_over : Option Standing → Option Standing
  put_over o = cond (is_at a b x) (option_map (λ _. x) o) o

  put_none : (t : Bool) → None ≡ cond t (option_map (λ (_ : Standing). x) None) None
  put_none true = refl
  put_none false = refl

  put_here : (t : Bool) (y : Standing) (o : Option Standing) →
      cond t (Some x) o ≡ cond t (option_map (λ (_ : Standing). x) (cond t (Some y) o)) (cond t (Some y) o)
  put_here true y o = refl
  put_here false y o = refl

  put_behind : (y : Standing) → is_at x.shard x.index y ≡ false → (t : Bool) → is_at a b y ≡ t → (old new : Option Standing) →
      new ≡ put_over old → cond t (Some y) new ≡ put_over (cond t (Some y) old)
  put_behind y off false t old new h = h
  put_behind y off true t old new h = by (is_at a b x) refl
    where
      by : (u : Bool) → is_at a b x ≡ u → Some y ≡ cond u (Some x) (Some y)
      by false u = refl
      by true u =
          let here = is_here a b x u in
          let on : is_at x.shard x.index y ≡ true =
          ap (λ (n : ℕ). is_at n x.index y) here.shard ∙ ap (λ (n : ℕ). is_at a n y) here.index ∙ t in
          let q : true ≡ false = sym on ∙ off in
          absurd cc

  pub put_found : (xs : List Standing) → find (is_at a b) (put_standing x xs) ≡ put_over (find (is_at a b) xs)
  put_found [] = put_none (is_at a b x)
  put_found (y ∷ ys) = by (is_at x.shard x.index y) refl (put_found ys)
    where
      by : (t : Bool) → is_at x.shard x.index y ≡ t → find (is_at a b) (put_standing x ys) ≡ put_over (find (is_at a b) ys) →
          find (is_at a b) (cond t (x ∷ ys) (y ∷ put_standing x ys)) ≡ put_over (cond (is_at a b y) (Some y) (find (is_at a b) ys))
      by true t later =
          put_here (is_at a b x) y (find (is_at a b) ys)
          ∙ ap (λ u. put_over (cond u (Some y) (find (is_at a b) ys))) (sym (same_test a b x y t))
      by false t later =
          put_behind y t (is_at a b y) refl (find (is_at a b) ys) (find (is_at a b) (put_standing x ys)) later

-- it stands where the other one stood
pub put_places : (x : Standing) (xs : List Standing) → map place_of (put_standing x xs) ≡ map place_of xs
put_places x [] = refl
put_places x (y ∷ ys) = by (put_places x ys) (is_at x.shard x.index y) refl
  where
    by : map place_of (put_standing x ys) ≡ map place_of ys → (t : Bool) → is_at x.shard x.index y ≡ t →
        map place_of (cond t (x ∷ ys) (y ∷ put_standing x ys)) ≡ place_of y ∷ map place_of ys
    by later true t =
        let here = is_here x.shard x.index y t in
        let same : place_of x ≡ place_of y =
        sym (ap (λ (n : ℕ). record { shard = n; index = y.index }) here.shard
        ∙ ap (λ (n : ℕ). record { shard = x.shard; index = n }) here.index) in
        ap (λ p. p ∷ map place_of ys) same
    by later false t = ap (λ l. place_of y ∷ l) later
