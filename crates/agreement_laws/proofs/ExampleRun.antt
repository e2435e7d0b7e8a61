-- The example's certificates.
use Rattle.std.proofs.Common.{◌≡◌, ℕ, zero, suc, ◌<◌, true, not, ◌&&◌, ◌==◌, refl, arith, inl, inr, sym, ◌∙◌, ap, [], ◌∷◌, lit<, lit≤}
use Rattle.std.specs.List.{Contains}
use Rattle.std.proofs.lemmas.Bool.{and_parts, cases_eq, eq-eqb, ne_eqb, eqb-true}
use Rattle.std.proofs.lemmas.Slice.Eq.{bytes_eq-Decides}
use Rattle.quorum_laws.specs.Sets.{Quorum}
use Rattle.agreement_laws.specs.Words.{Id, same_id, Decision, same_decision, Commit, Abort, Vote, LogReply, Election}
use Rattle.agreement_laws.specs.Settings.{Sane}
use Rattle.agreement_laws.specs.Certificates.{Signed, Says, Voted, Tallied, Logged, Elected, ConflictAbort}
use Rattle.agreement_laws.specs.Runs.{signed_of, run, start, AreLawful}
use Rattle.agreement_laws.specs.Examples.{alone, first_id, second_id, third_id, example, AreReached}

eqb_comm : (a b : ℕ) → (a == b) ≡ (b == a)
eqb_comm a b = elim (cases_eq a b) [
  | inl e ↦ rw (eq-eqb a b e, eq-eqb b a (sym e)) refl
  | inr n ↦ rw (ne_eqb a b n, ne_eqb b a (λ e. n (sym e))) refl
]

same_self : (x : Id) → same_id x x ≡ true
same_self x = (bytes_eq-Decides x x).1 refl

same_back : (x y : Id) → same_id x y ≡ same_id y x
same_back [] [] = refl
same_back [] (b ∷ y) = refl
same_back (a ∷ x) [] = refl
same_back (a ∷ x) (b ∷ y) = rw (eqb_comm a b, same_back x y) refl

alone_sane : Sane alone
alone_sane = record {
  few = λ s. omega arith;
  not_itself = λ x s. ap (λ b. not b && (s == 0)) (same_self x);
  both_ways = λ x y s h. ap (λ b. not b && (s == 0)) (same_back y x) ∙ h;
  on_a_key = λ x y s h. (and_parts (not (same_id x y)) (s == 0) h).1;
  of_a_key = λ x y s h. cc;
}

-- the only replica
only : (P : ℕ → Type 0) → P 0 → (r : ℕ) → r < 1 → P r
only P h zero l = h
only P h (suc r) l = absurd (omega arith)

only_shard : (P : ℕ → Type 0) → P 0 → (s : ℕ) → (s == 0) ≡ true → P s
only_shard P h zero e = h
only_shard P h (suc s) e = absurd (omega (arith, eqb-true (suc s) 0 e))

one_of_one : (P : ℕ → Type 0) → P 0 → Quorum 1 1 P
one_of_one P h = record { who = λ _. true; many = omega arith; each = λ r l _. only P h r l }

module _ (g : Signed) where
  voted : (x : Id) (d : Decision) → Contains (g 0 0) (Vote 0 0 x d) → Voted alone g x 0 d 1
  voted x d h = one_of_one (λ r. Says alone g 0 r (Vote 0 r x d)) (inr h)

  voted_everywhere : (x : Id) → Contains (g 0 0) (Vote 0 0 x Commit) → (s : ℕ) → (s == 0) ≡ true → Voted alone g x s Commit 1
  voted_everywhere x h = only_shard (λ s. Voted alone g x s Commit 1) (voted x Commit h)

  abort_tallied : (x : Id) → Contains (g 0 0) (Vote 0 0 x Abort) → Tallied alone g x Abort
  abort_tallied x h = (0, refl, voted x Abort h)

  elected : (x : Id) (d : Decision) (w : ℕ) → Contains (g 0 0) (Election 0 0 x d w) → same_decision d d ≡ true → Elected alone g x d w
  elected x d w h e = record {
    who = λ _. true;
    names = λ _. d;
    exact = refl;
    most = rw e (lit≤ tt);
    each = λ r l _. only (λ r. Says alone g 0 r (Election 0 r x d w)) (inr h) r l;
  }

  logged : (x : Id) (d : Decision) (v a : ℕ) → Contains (g 0 0) (LogReply 0 0 x d v a) → Logged alone g x d v
  logged x d v a h = one_of_one (λ r. (u : ℕ) × Says alone g 0 r (LogReply 0 r x d v u)) (a, inr h)

  conflict_abort : Contains (g 0 0) (Vote 0 0 first_id Commit) → Contains (g 0 0) (Vote 0 0 second_id Abort) →
      ConflictAbort alone g second_id
  conflict_abort h k = record {
    voter_shard = 0;
    voter = 0;
    of_involved = refl;
    in_range = lit< tt;
    voted = inr k;
    rival = first_id;
    shard = 0;
    conflicts = refl;
    commits = inl (voted_everywhere first_id h);
  }

lawful : AreLawful alone example start
lawful = (
  (refl, (refl, λ y h. cc, inr (refl, λ y _. refl))),
  (
    (refl, (refl, refl, voted_everywhere _ first_id (0, lit< tt, refl))),
    (
      (refl, (refl, lit< tt)),
      (
        (refl, elected _ first_id Commit 1 (2, lit< tt, refl) refl),
        (
          (refl, ((lit< tt, lit≤ tt), elected _ first_id Commit 1 (2, lit< tt, refl) refl, inr (3, lit< tt, refl))),
          (
            (refl, (refl, inl (voted_everywhere _ first_id (0, lit< tt, refl)))),
            (
              (refl, (refl, inr refl)),
              (
                inr (inr (conflict_abort _ (0, lit< tt, refl) (5, lit< tt, refl))),
                (
                  (refl, (refl, refl)),
                  (
                    (refl, (refl, inr refl)),
                    (
                      (refl, (refl, refl, abort_tallied _ third_id (6, lit< tt, refl))),
                      tt,
                    ),
                  ),
                ),
              ),
            ),
          ),
        ),
      ),
    ),
  ),
)

pub reached : AreReached
reached = let g = signed_of (run example start) in record {
  sane = alone_sane;
  lawful = lawful;
  fast_commit = voted_everywhere g first_id (0, lit< tt, refl);
  logged_commit = (1, logged g first_id Commit 1 1 (4, lit< tt, refl));
  conflict_abort = conflict_abort g (0, lit< tt, refl) (5, lit< tt, refl);
  fast_abort = abort_tallied g third_id (6, lit< tt, refl);
  logged_abort = (0, logged g third_id Abort 0 0 (7, lit< tt, refl));
}
