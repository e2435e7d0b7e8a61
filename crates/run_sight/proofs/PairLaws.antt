-- A pair that proves its decision, or doesn't, beside what is kept.
use Rattle.std.proofs.Common.{◌≡◌, ℕ, Bool, true, false, cond, Ok, Err, List, [], ◌∷◌, ◌++◌, length, take, refl, sym, ap, subst, ◌∙◌}
use Rattle.std.specs.Prelude.{Result, OnOk, ◌&&◌, ◌||◌, Contains, filter}
use Rattle.std.proofs.Math.Seq.{take-append_seam, take-length}
use Rattle.std.proofs.lemmas.List.{append-nil, append_assoc}
use Rattle.std.proofs.lemmas.List.Elements.{filter-append, Contains-append_right}
use Rattle.basil_types.proofs.MemberLaws.{in_head}
use Rattle.basil_types.specs.Decision.{is_abort}
use Rattle.basil_types.specs.declared.party.Decision.{Decision}
use Rattle.basil_types.specs.declared.party.Decision.TheVariants.{Commit, Abort}
use Rattle.basil_types.specs.Setting.{Setting}
use Rattle.basil_types.specs.Transaction.{TransactionValue, id}
use Rattle.certificates.specs.Accepted.{Accepted}
use Rattle.frame_views.specs.Carried.{pairs_in}
use Rattle.frame_views.specs.Fitting.{FitsCertificate, FitsMessage, bounds_of}
use Rattle.frame_views.specs.Values.{MessageValue, PairValue}
use Rattle.cluster_run.proofs.Marking.{pairs_are}
use Rattle.cluster_run.specs.Parts.{is_proven}
use Rattle.cluster_run.specs.States.{Setup}
use Rattle.run_sight.specs.declared.certified.Certified.{Certified}
use Rattle.run_sight.specs.Keeping.{AddsProven, AreOf, HasGrown, Keeps, SameKept, commits_of, decisions_of, has, with_first}
use Rattle.run_sight.proofs.KeepLaws.{kept_more, kept_same, named_by}

-- ---- growth

take_take : {X : Type 0} (xs ys zs : List X) → take (length ys) zs ≡ ys → take (length xs) ys ≡ xs → take (length xs) zs ≡ xs
take_take [] ys zs e f = refl
take_take (x ∷ xs) [] zs e f = absurd cc
take_take (x ∷ xs) (y ∷ ys) [] e f = absurd cc
take_take (x ∷ xs) (y ∷ ys) (z ∷ zs) e f =
    let heads : z ≡ x = (let a : z ≡ y = cc in let b : y ≡ x = cc in a ∙ b) in
    let e' : take (length ys) zs ≡ ys = cc in
    let f' : take (length xs) ys ≡ xs = cc in
    ap (λ z. z ∷ take (length xs) zs) heads ∙ ap (λ l. x ∷ l) (take_take xs ys zs e' f')

grown_first : {X : Type 0} (es : List (List ℕ × X)) (i : List ℕ) (x : X) → take (length es) (with_first es i x) ≡ es
grown_first es i x = by (has es i)
  where
    by : (b : Bool) → take (length es) (cond b es (es ++ (i, x) ∷ [])) ≡ es
    by true = take-length es
    by false = take-append_seam es ((i, x) ∷ [])

grown_same : {X : Type 0} (xs ys : List X) → ys ≡ xs → take (length xs) ys ≡ xs
grown_same xs ys e = ap (take (length xs)) e ∙ take-length xs

pub none_grown : (old : Certified) → HasGrown old old
none_grown old = record { decisions = take-length (decisions_of old); commits = take-length (commits_of old) }

pub same_grown : (old new : Certified) → decisions_of new ≡ decisions_of old → commits_of new ≡ commits_of old → HasGrown old new
same_grown old new d c = record {
  decisions = grown_same (decisions_of old) (decisions_of new) d;
  commits = grown_same (commits_of old) (commits_of new) c;
}

pub decision_grown : (old new : Certified) (i : List ℕ) (d : Decision) → decisions_of new ≡ with_first (decisions_of old) i d →
    commits_of new ≡ commits_of old → HasGrown old new
decision_grown old new i d e c = record {
  decisions = ap (take (length (decisions_of old))) e ∙ grown_first (decisions_of old) i d;
  commits = grown_same (commits_of old) (commits_of new) c;
}

pub commit_grown : (old new : Certified) (i : List ℕ) (t : TransactionValue) → commits_of new ≡ with_first (commits_of old) i t →
    decisions_of new ≡ decisions_of old → HasGrown old new
commit_grown old new i t e d = record {
  decisions = grown_same (decisions_of old) (decisions_of new) d;
  commits = ap (take (length (commits_of old))) e ∙ grown_first (commits_of old) i t;
}

pub grown_both : (first middle last : Certified) → HasGrown first middle → HasGrown middle last → HasGrown first last
grown_both first middle last g h = record {
  decisions = take_take (decisions_of first) (decisions_of middle) (decisions_of last) h.decisions g.decisions;
  commits = take_take (commits_of first) (commits_of middle) (commits_of last) h.commits g.commits;
}

-- what is cut to what was kept is that
pub cut_back : (old grown new : Certified) (d c : ℕ) → d ≡ length (decisions_of old) → c ≡ length (commits_of old) → HasGrown old grown →
    decisions_of new ≡ take d (decisions_of grown) → commits_of new ≡ take c (commits_of grown) → SameKept old new
cut_back old grown new d c e f g k l = record {
  decisions = k ∙ ap (λ n. take n (decisions_of grown)) e ∙ g.decisions;
  commits = l ∙ ap (λ n. take n (commits_of grown)) f ∙ g.commits;
}

-- ---- one pair

module _ (A : Accepted) (c : Setting) (p : PairValue) (old new : Certified) where
  -- where one more pair may be kept, it may be left out too, if it proves nothing
  either : (s : Setup) (pairs : List PairValue) → Keeps old pairs → (b : Bool) → is_proven s p ≡ b →
      (b ≡ true → Keeps new (pairs ++ p ∷ [])) → (b ≡ false → Keeps new pairs) → Keeps new (pairs ++ filter (is_proven s) (p ∷ []))
  either s pairs h true e yes' no' = subst (λ b. Keeps new (pairs ++ cond b (p ∷ []) [])) (sym e) (yes' refl)
  either s pairs h false e yes' no' =
      subst (λ b. Keeps new (pairs ++ cond b (p ∷ []) [])) (sym e) (subst (Keeps new) (sym (append-nil pairs)) (no' refl))

  -- it is proven, and is kept
  pub adds_one : (i : List ℕ) (d : Decision) (proven : Bool) → i ≡ id p.transaction → d ≡ named_by p → proven ≡ true →
      ((s : Setup) → AreOf A c s → proven ≡ is_proven s p) → decisions_of new ≡ with_first (decisions_of old) i d →
      (d ≡ Commit → commits_of new ≡ with_first (commits_of old) i p.transaction) → (d ≡ Abort → commits_of new ≡ commits_of old) →
      AddsProven A c (p ∷ []) old new
  adds_one i d proven ii dd e is ds cs aborts s pairs own h =
      either s pairs h true (sym (is s own) ∙ e)
      (λ k. kept_more (decisions_of old) (commits_of old) pairs p h (decisions_of new) (commits_of new)
      (ds ∙ ap (λ (j : List ℕ). with_first (decisions_of old) j d) ii ∙ ap (with_first (decisions_of old) (id p.transaction)) dd)
      (λ l. cs (dd ∙ l) ∙ ap (λ (j : List ℕ). with_first (commits_of old) j p.transaction) ii) (λ l. aborts (dd ∙ l)))
      (λ k. absurd cc)

module _ (A : Accepted) (c : Setting) (p : PairValue) (old : Certified) where
  -- it tells nothing new
  pub adds_known : (i : List ℕ) (d : Decision) (known : Bool) → i ≡ id p.transaction → d ≡ named_by p →
      known ≡ (has (decisions_of old) i && (is_abort d || has (commits_of old) i)) → known ≡ true → AddsProven A c (p ∷ []) old old
  adds_known i d known ii dd k e s pairs own h =
      either A c p old old s pairs h (is_proven s p) refl
      (λ l. kept_same (decisions_of old) (commits_of old) pairs p h
      (sym (sym e ∙ k ∙ ap (λ (j : List ℕ). has (decisions_of old) j && (is_abort d || has (commits_of old) j)) ii
      ∙ ap (λ (x : Decision). has (decisions_of old) (id p.transaction) && (is_abort x || has (commits_of old) (id p.transaction))) dd)))
      (λ l. h)

  -- it proves nothing
  pub adds_unproven : (proven : Bool) → proven ≡ false → ((s : Setup) → AreOf A c s → proven ≡ is_proven s p) →
      AddsProven A c (p ∷ []) old old
  adds_unproven proven e is s pairs own h =
      either A c p old old s pairs h false (sym (is s own) ∙ e) (λ l. absurd cc) (λ l. h)

-- ---- pair after pair

pub adds_nothing : (A : Accepted) (c : Setting) (old : Certified) → AddsProven A c [] old old
adds_nothing A c old s pairs own h = subst (Keeps old) (sym (append-nil pairs)) h

adds_both : (A : Accepted) (c : Setting) (ps qs : List PairValue) (first middle last : Certified) → AddsProven A c ps first middle →
    AddsProven A c qs middle last → AddsProven A c (ps ++ qs) first last
adds_both A c ps qs first middle last g h s pairs own k =
    subst (Keeps last)
    (append_assoc pairs (filter (is_proven s) ps) (filter (is_proven s) qs)
    ∙ ap (λ rs. pairs ++ rs) (sym (filter-append (is_proven s) ps qs)))
    (h s (pairs ++ filter (is_proven s) ps) own (g s pairs own k))

-- a walk over pairs that has so many done
pub record Walked (A : Accepted) (c : Setting) (all left : List PairValue) (old new : Certified) : Type 0 where
  pub done : List PairValue
  pub split : all ≡ done ++ left
  pub added : AddsProven A c done old new
  pub grown : HasGrown old new

module _ (A : Accepted) (c : Setting) (all : List PairValue) (old : Certified) where
  pub walk_begins : (left : List PairValue) → left ≡ all → Walked A c all left old old
  walk_begins left e = record { done = []; split = sym e; added = adds_nothing A c old; grown = none_grown old }

  pub walk_goes_on : (left rest : List PairValue) (p : PairValue) (mid new : Certified) → Walked A c all left old mid → left ≡ p ∷ rest →
      AddsProven A c (p ∷ []) mid new → HasGrown mid new → Walked A c all rest old new
  walk_goes_on left rest p mid new w e a g = record {
    done = w.done ++ p ∷ [];
    split = w.split ∙ ap (λ ps. w.done ++ ps) e ∙ sym (append_assoc w.done (p ∷ []) rest);
    added = adds_both A c w.done (p ∷ []) old mid new w.added a;
    grown = grown_both old mid new w.grown g;
  }

  pub walk_ends : (left : List PairValue) (new : Certified) → Walked A c all left old new → left ≡ [] → AddsProven A c all old new
  walk_ends left new w e =
      subst (λ ps. AddsProven A c ps old new) (sym (w.split ∙ ap (λ ps. w.done ++ ps) e ∙ append-nil w.done)) w.added

  -- the next pair is one of all
  pub walk_has : (left rest : List PairValue) (p : PairValue) (mid : Certified) → Walked A c all left old mid → left ≡ p ∷ rest →
      Contains all p
  walk_has left rest p mid w e =
      subst (λ ps. Contains ps p) (sym (w.split ∙ ap (λ ps. w.done ++ ps) e))
      (Contains-append_right w.done (p ∷ rest) p (in_head p rest))

pub pair_fits : (c : Setting) (m : MessageValue) (p : PairValue) → FitsMessage (bounds_of c) m → Contains (pairs_in m) p →
    FitsCertificate (bounds_of c) p.certificate
pair_fits c m p fits i = (pairs_are (bounds_of c) m p fits i).fits

-- ---- results

pub on_kept : {E : Type 0} (r : Result (Unit {0}) E) (P Q R : Type 0) {S : Type 0} → (P → Q → R → S) →
    OnOk r P → OnOk r Q → OnOk r R → OnOk r S
on_kept (Ok u) P Q R f p q r = f p q r
on_kept (Err e) P Q R f p q r = p
