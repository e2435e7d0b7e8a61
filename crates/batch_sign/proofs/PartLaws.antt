-- Where two ways part, as the code keeps it.
use Rattle.std.proofs.Common.{◌≡◌, ℕ, zero, suc, ◌+◌, Bool, true, false, List, Option, Some, None}
use Rattle.std.proofs.Common.{refl, sym, ap, ◌∙◌, subst, add-one, bytes_eq, Err}
use Rattle.batch_sign.specs.Parting.{Shows, later_of, nodes_at}
use Rattle.batch_sign.specs.Places.{Found, Meets, Tells, meets_at, parting}
use Rattle.batch_sign.specs.declared.finding.Parted.{Parted}
use Rattle.batch_sign.specs.declared.finding.PlaceFault.{PlaceFault}
use Rattle.batch_sign.specs.declared.finding.PlaceFault.TheVariants.{OtherBatch, Collision, NoMemory}

pub parting_none : (f g : ℕ → List ℕ) → nodes_at f g (parting f g 0) ≡ None
unfolding parting
parting_none f g = refl

-- one level more
pub parting_more : (f g : ℕ → List ℕ) (k : ℕ) (last : Option Parted) → last ≡ nodes_at f g (parting f g k) →
    later_of (f (suc k)) (g (suc k)) last ≡ nodes_at f g (parting f g (k + 1))
unfolding parting
parting_more f g k last so_far = rw add-one (by (bytes_eq (f (suc k)) (g (suc k))) refl)
  where
    by : (same : Bool) → bytes_eq (f (suc k)) (g (suc k)) ≡ same →
        later_of (f (suc k)) (g (suc k)) last ≡ nodes_at f g (parting f g (suc k))
    by true e = rw e so_far
    by false e = rw e refl

-- the texts of nodes at a level are those of the ways there
pub shown-nodes : (f g : ℕ → List ℕ) (level : ℕ) (p : Parted) (fault : PlaceFault) → Some p ≡ nodes_at f g level →
    Shows p.first p.second fault → Shows (f level) (g level) fault
shown-nodes f g zero p fault e h = absurd (none-some p (sym e))
  where
    none-some : (p : Parted) → None ≡ Some p → ⊥
    none-some p e = cc
shown-nodes f g (suc level) p fault e h =
    let same : p ≡ (record { first = f (suc level); second = g (suc level) }) = ap (taken p) e in
    subst (λ (q : Parted). Shows q.first q.second fault) same h
  where
    taken : Parted → Option Parted → Parted
    taken p None = p
    taken p (Some q) = q

-- where no nodes differ the ways part in the leaves
pub shown-leaves : (f g : ℕ → List ℕ) (level : ℕ) (fault : PlaceFault) → None ≡ nodes_at f g level →
    Shows (f 0) (g 0) fault → Shows (f level) (g level) fault
shown-leaves f g zero fault e h = h
shown-leaves f g (suc level) fault e h = absurd (none-some e)
  where
    none-some : {p : Parted} → None ≡ Some p → ⊥
    none-some e = cc

-- so it is told
pub tells-meeting : (f g : ℕ → List ℕ) (level : ℕ) (found : Found) (fault : PlaceFault) → found ≡ meets_at f g level →
    Shows (f level) (g level) fault → Tells found (Err fault)
tells-meeting f g level found OtherBatch e h = absurd h
tells-meeting f g level found (Collision first second) e h =
    e ∙ ap (λ (x : List ℕ). Meets x (g level)) (sym h.0) ∙ ap (λ (y : List ℕ). Meets first y) (sym h.1)
tells-meeting f g level found NoMemory e h = tt
