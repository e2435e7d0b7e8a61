-- Roads, and the links that carry them.
use Rattle.std.proofs.Common.{◌≡◌, ℕ, Bool, true, false, List, [], ◌++◌, Option, Some, None, refl, sym, ap, ◌∙◌, append_assoc, append-nil}
use Rattle.std.specs.Prelude.{option_map}
use Rattle.basil_types.specs.Links.{LinkState}
use Rattle.schedule_replay.specs.Replays.{ReplayValue, along}
use Rattle.schedule_replay.specs.Roads.{Carries, Road, Uses, behind_one, carries_all, gift, road_with}

-- ---- what links told

pub nothing_carried : (o : Option LinkState) → option_map (carries_all []) o ≡ o
nothing_carried None = refl
nothing_carried (Some s) = ap (λ xs. Some (record s { carried = xs })) (append-nil s.carried)

both_carried : (xs ys : List (List ℕ)) (o : Option LinkState) →
    option_map (carries_all ys) (option_map (carries_all xs) o) ≡ option_map (carries_all (xs ++ ys)) o
both_carried xs ys None = refl
both_carried xs ys (Some s) = ap (λ zs. Some (record s { carried = zs })) (append_assoc s.carried xs ys)

-- ---- roads

pub along_own : (r : ReplayValue) (road : Road) → r.road ≡ road → along road r ≡ r
along_own r road h = ap (λ x. record r { road = x }) (sym h)

pub behind_gift : (carried : Bool) (given : List ℕ) (later : List (List ℕ)) →
    behind_one (road_with carried (gift carried given ++ later)) ≡ road_with carried later
behind_gift false given later = refl
behind_gift true given later = refl

pub no_gift : (carried : Bool) (given : List ℕ) → carried ≡ false → gift carried given ≡ []
no_gift false given h = refl
no_gift true given h = absurd cc

pub two_gifts : (carried : Bool) (xs ys later : List (List ℕ)) →
    road_with carried ((xs ++ ys) ++ later) ≡ road_with carried (xs ++ (ys ++ later))
two_gifts carried xs ys later = ap (road_with carried) (append_assoc xs ys later)

-- ---- links that a call doesn't use

pub unused_by : {L : Type 0} (carried : Bool) (links : L) (faults : ℕ) (failed : Bool) → failed ≡ false →
    Uses carried links links faults faults failed
unused_by carried links faults true h = absurd cc
unused_by carried links faults false h =
    record { unused = λ e. refl; carries = λ e. absurd cc; cause = λ e. absurd cc; kept = λ e. refl }

-- ---- what a call carries

module _ (carried : Bool) where
  -- nothing
  pub carries_none : {old new : Option LinkState} {P : List (List ℕ) → Type 0} → new ≡ old → P [] → Carries carried old new P
  carries_none {old = old} told p = record { gave = []; told = told ∙ sym (nothing_carried old); own = λ h. refl; should = p }

  -- these
  pub carries_these : {old new : Option LinkState} {P : List (List ℕ) → Type 0} (gave : List (List ℕ)) →
      new ≡ option_map (carries_all gave) old → (carried ≡ false → gave ≡ []) → P gave → Carries carried old new P
  carries_these gave told own p = record { gave = gave; told = told; own = own; should = p }

  -- what one call and then another carries
  pub carries_both : {old mid new : Option LinkState} {P Q R : List (List ℕ) → Type 0} → Carries carried old mid P →
      Carries carried mid new Q → ((g h : List (List ℕ)) → P g → Q h → R (g ++ h)) → Carries carried old new R
  carries_both {old = old} a b join = record {
    gave = a.gave ++ b.gave;
    told = b.told ∙ (ap (option_map (carries_all b.gave)) a.told ∙ both_carried a.gave b.gave old);
    own = λ h. ap (λ xs. xs ++ b.gave) (a.own h) ∙ b.own h;
    should = join a.gave b.gave a.should b.should;
  }

  -- the same, said otherwise
  pub carries_as : {old new : Option LinkState} {P Q : List (List ℕ) → Type 0} → Carries carried old new P →
      ((g : List (List ℕ)) → P g → Q g) → Carries carried old new Q
  carries_as a turn = record { gave = a.gave; told = a.told; own = a.own; should = turn a.gave a.should }
