-- What is read was spelled so and fits, and what fits is read again from its spelling: for fields one after the other.
use Rattle.std.proofs.Common.{◌≡◌, ℕ, List, [], ◌∷◌, ◌++◌, Result, Ok, refl, sym}
use Rattle.std.proofs.Common.{ap, subst, ◌∙◌, append_assoc, arith}
use Rattle.std.specs.List.{flat_map}
use Rattle.basil_types.specs.declared.reading.Fault.{Fault}
use Rattle.basil_types.specs.Steps.{◌>>=◌}
use Rattle.basil_types.specs.Lists.{items_at}
use Rattle.basil_types.specs.Texts.{IsBytes}
use Rattle.basil_types.specs.Reading.{byte_at}
use Rattle.basil_types.proofs.Fields.{bind_ok, ok_is, Takes, Takes-then, byte_takes}
use Rattle.basil_types.proofs.ListLaws.{Reads, reads-take, reads-again}
use Rattle.frame_views.specs.Forms.{◌▹◌, ◌‖◌, made}
use Rattle.frame_views.specs.Fitting.{AreCounted}
use Rattle.frame_views.specs.Spelling.{counted}
use Rattle.frame_views.specs.Grammar.{counted_at}

-- what one reads was spelled so and fits, and wide reads what fits from its spelling
pub record Lawful {A : Type 0} (one wide : List ℕ → Result (A × List ℕ) Fault) (spell : A → List ℕ) (Fits : A → Type 0) : Type 0 where
  pub takes : (bytes : List ℕ) (x : A × List ℕ) → IsBytes bytes → one bytes ≡ Ok x → Takes bytes (spell x.0) x.1 × Fits x.0
  pub again : (v : A) (rest : List ℕ) → Fits v → wide (spell v ++ rest) ≡ Ok (v, rest)

-- ---- two fields

module _ {A B : Type 0} (first first-wide : List ℕ → Result (A × List ℕ) Fault) (spell : A → List ℕ) (Fit : A → Type 0)
    (second second-wide : A → List ℕ → Result (B × List ℕ) Fault) (spell-second : A → B → List ℕ) (Fit-second : A → B → Type 0) where
  pub then_law : Lawful first first-wide spell Fit → ((a : A) → Fit a → Lawful (second a) (second-wide a) (spell-second a) (Fit-second a))
      → Lawful (first ▹ second) (first-wide ▹ second-wide) (λ p. spell p.0 ++ spell-second p.0 p.1) (λ p. Fit p.0 × Fit-second p.0 p.1)
  then_law law laws = record { takes = takes; again = again }
    where
      takes : (bytes : List ℕ) (x : (A × B) × List ℕ) → IsBytes bytes → (first ▹ second) bytes ≡ Ok x
          → Takes bytes (spell x.0.0 ++ spell-second x.0.0 x.0.1) x.1 × (Fit x.0.0 × Fit-second x.0.0 x.0.1)
      takes bytes x fits e =
          let a = bind_ok (first bytes) (λ a. second a.0 a.1 >>= λ b. Ok ((a.0, b.0), b.1)) x e in
          let b = bind_ok (second a.0.0 a.0.1) (λ b. Ok ((a.0.0, b.0), b.1)) x a.2 in
          let t0 = law.takes bytes a.0 fits a.1 in
          let t1 = (laws a.0.0 t0.1).takes a.0.1 b.0 t0.0.rest_fits b.1 in
          let all : (A × B) × List ℕ = ((a.0.0, b.0.0), b.0.1) in
          subst (λ (y : (A × B) × List ℕ). Takes bytes (spell y.0.0 ++ spell-second y.0.0 y.0.1) y.1
          × (Fit y.0.0 × Fit-second y.0.0 y.0.1)) (ok_is all x b.2)
          (Takes-then bytes (spell a.0.0) a.0.1 (spell-second a.0.0 b.0.0) b.0.1 t0.0 t1.0, (t0.1, t1.1))

      again : (v : A × B) (rest : List ℕ) → (Fit v.0 × Fit-second v.0 v.1)
          → (first-wide ▹ second-wide) ((spell v.0 ++ spell-second v.0 v.1) ++ rest) ≡ Ok (v, rest)
      again v rest fits =
          ap (first-wide ▹ second-wide) (append_assoc (spell v.0) (spell-second v.0 v.1) rest)
          ∙ rw (law.again v.0 (spell-second v.0 v.1 ++ rest) fits.0, (laws v.0 fits.0).again v.1 rest fits.1) refl

module _ {A B : Type 0} {first first-wide : List ℕ → Result (A × List ℕ) Fault} {spell : A → List ℕ} {Fit : A → Type 0}
    {second second-wide : List ℕ → Result (B × List ℕ) Fault} {spell-second : B → List ℕ} {Fit-second : B → Type 0} where
  pub both : Lawful first first-wide spell Fit → Lawful second second-wide spell-second Fit-second
      → Lawful (first ‖ second) (first-wide ‖ second-wide) (λ p. spell p.0 ++ spell-second p.1) (λ p. Fit p.0 × Fit-second p.1)
  both law other =
      then_law first first-wide spell Fit (λ _. second) (λ _. second-wide) (λ _ b. spell-second b) (λ _ b. Fit-second b) law (λ _ _. other)

-- ---- what fields make

module _ {A B : Type 0} (of : A → B) (one wide : List ℕ → Result (A × List ℕ) Fault) (spell : A → List ℕ) (Fit : A → Type 0) where
  pub made_takes : Lawful one wide spell Fit → (bytes : List ℕ) (x : B × List ℕ) → IsBytes bytes → made of one bytes ≡ Ok x → (a : A)
      × (of a ≡ x.0) × Takes bytes (spell a) x.1 × Fit a
  made_takes law bytes x fits e =
      let a = bind_ok (one bytes) (λ a. Ok (of a.0, a.1)) x e in
      let t = law.takes bytes a.0 fits a.1 in
      let all : B × List ℕ = (of a.0.0, a.0.1) in
      let is = ok_is all x a.2 in (
        a.0.0,
        ap (λ (y : B × List ℕ). y.0) is,
        subst (λ (rest : List ℕ). Takes bytes (spell a.0.0) rest)
            (ap (λ (y : B × List ℕ). y.1) is) t.0,
        t.1,
      )

  pub made_again : Lawful one wide spell Fit → (a : A) (rest : List ℕ) → Fit a → made of wide (spell a ++ rest) ≡ Ok (of a, rest)
  made_again law a rest fits = rw (law.again a rest fits) refl

  -- all values that fit are made of fields that fit
  pub made_law : (text : B → List ℕ) (Fits : B → Type 0) → Lawful one wide spell Fit → ((a : A) → Fit a → text (of a) ≡ spell a)
      → ((a : A) → Fit a → Fits (of a))
      → ((v : B) → Fits v → (a : A) × (of a ≡ v) × Fit a) → Lawful (made of one) (made of wide) text Fits
  made_law text Fits law texts to back = record { takes = takes; again = again }
    where
      takes : (bytes : List ℕ) (x : B × List ℕ) → IsBytes bytes → made of one bytes ≡ Ok x → Takes bytes (text x.0) x.1 × Fits x.0
      takes bytes x fits e =
          let t = made_takes law bytes x fits e in
          subst (λ (v : B). Takes bytes (text v) x.1 × Fits v) t.1
          (subst (λ (z : List ℕ). Takes bytes z x.1) (sym (texts t.0 t.3)) t.2, to t.0 t.3)

      again : (v : B) (rest : List ℕ) → Fits v → made of wide (text v ++ rest) ≡ Ok (v, rest)
      again v rest fits =
          let a = back v fits in
          subst (λ (v : B). made of wide (text v ++ rest) ≡ Ok (v, rest)) a.1
          (ap (λ (z : List ℕ). made of wide (z ++ rest)) (texts a.0 a.2) ∙ made_again law a.0 rest a.2)

-- ---- lists

module _ {V : Type 0} (one wide : ℕ → List ℕ → Result (V × List ℕ) Fault) (next : V → ℕ) (spell : V → List ℕ) (Fit : ℕ → V → Type 0) where
  pub counted_law : Reads one wide spell Fit → Lawful (counted_at one next) (counted_at wide next) (counted spell) (AreCounted Fit next)
  counted_law reads = record { takes = takes; again = again }
    where
      takes : (bytes : List ℕ) (x : List V × List ℕ) → IsBytes bytes → counted_at one next bytes ≡ Ok x
          → Takes bytes (counted spell x.0) x.1 × AreCounted Fit next x.0
      takes bytes x fits e =
          let n = bind_ok (byte_at bytes) (λ count. items_at one next count.0 0 count.1) x e in
          let t0 = byte_takes bytes n.0 fits n.1 in
          let t1 = reads-take one next wide spell Fit reads n.0.0 0 n.0.1 x t0.0.rest_fits n.2 in
          let all = Takes-then bytes (n.0.0 ∷ []) n.0.1 (flat_map spell x.0) x.1 t0.0 t1.0 in (
            subst (λ (k : ℕ). Takes bytes (k ∷ flat_map spell x.0) x.1) (sym t1.1) all,
            record { count = omega (arith, t1.1, t0.1); each = t1.2 },
          )

      again : (v : List V) (rest : List ℕ) → AreCounted Fit next v → counted_at wide next (counted spell v ++ rest) ≡ Ok (v, rest)
      again v rest fits = reads-again one next wide spell Fit reads 0 v rest fits.each
