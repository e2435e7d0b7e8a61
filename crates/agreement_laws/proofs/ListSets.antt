-- Lists of signatures are the sets of the certificates.
use Rattle.std.proofs.Common.{◌≡◌, ℕ, zero, suc, ◌==◌, Bool, true, false, cond, ◌&&◌, ◌||◌}
use Rattle.std.proofs.Common.{refl, arith, inl, inr, sym, ◌∙◌, ap, subst, List, [], ◌∷◌, length}
use Rattle.std.specs.List.{Contains, count_by}
use Rattle.std.proofs.lemmas.Bool.{cases_Bool, eqb-true, and_left}
use Rattle.std.proofs.lemmas.List.Elements.{Contains-append_right}
use Rattle.std.proofs.lemmas.List.Sums.{sum_by-cons}
use Rattle.quorum_laws.specs.Sets.{size}
use Rattle.quorum_laws.specs.Lists.{AreRising, listed}
use Rattle.quorum_laws.proofs.Counts.{size_same}
use Rattle.quorum_laws.proofs.ListSets.{size_add, not_listed, lists_are_sets, of_list}
use Rattle.agreement_laws.specs.Words.{Decision, Commit, same_decision, Vote, LogReply}
use Rattle.agreement_laws.specs.Certificates.{Says}
use Rattle.agreement_laws.specs.Lists.{VotesOfList, LogOfList, Named, replicas_of, ElectionOfList}

in_head : {X : Type 0} (x : X) (xs : List X) → Contains (x ∷ xs) x
in_head x xs = (0, omega arith, refl)

in_rest : {X : Type 0} (x y : X) (xs : List X) → Contains xs y → Contains (x ∷ xs) y
in_rest x y xs h = Contains-append_right (x ∷ []) xs y h

listed_in : (rs : List ℕ) (r : ℕ) → listed rs r ≡ true → Contains rs r
listed_in [] r h = cc
listed_in (k ∷ rs) r h = elim (cases_Bool (k == r)) [
  | inl e ↦ subst (λ (z : ℕ). Contains (k ∷ rs) z) (eqb-true k r e) (in_head k rs)
  | inr e ↦ in_rest k r rs (listed_in rs r (rw e at h))
]

pub votes_of_list : VotesOfList
votes_of_list c signed x s k d rs a h f = of_list _ k (λ r. Says c signed s r (Vote s r x d)) rs a h (λ r e. f r (listed_in rs r e))

pub log_of_list : LogOfList
log_of_list c signed x d v rs a h f =
    of_list _ _ (λ r. (u : ℕ) × Says c signed (c.log_shard x) r (LogReply (c.log_shard x) r x d v u)) rs a h (λ r e. f r (listed_in rs r e))

-- what a replica's word of a list names
abbrev name_in : List Named → ℕ → Decision
name_in [] r = Commit
name_in (w ∷ ws) r = cond (w.replica == r) w.decision (name_in ws r)

named_in : (ws : List Named) (r : ℕ) → listed (replicas_of ws) r ≡ true → Contains ws (record { replica = r; decision = name_in ws r })
named_in [] r h = cc
named_in (w ∷ ws) r h = elim (cases_Bool (w.replica == r)) [
  | inl e ↦
      rw e (subst (λ (z : ℕ). Contains (w ∷ ws) (record { replica = z; decision = w.decision })) (eqb-true w.replica r e) (in_head w ws))
  | inr e ↦ rw e (in_rest w (record { replica = r; decision = name_in ws r }) ws (named_in ws r (rw e at h)))
]

abbrev naming : Decision → List Named → ℕ → Bool
naming d ws r = listed (replicas_of ws) r && same_decision (name_in ws r) d

-- as many replicas name it as words
naming_count : (d : Decision) (floor n : ℕ) (ws : List Named) → AreRising floor n (replicas_of ws) →
    size (naming d ws) n ≡ count_by (λ w. same_decision w.decision d) ws
naming_count d floor n [] a = size_none n where
  size_none : (n : ℕ) → size (λ _. false) n ≡ 0
  size_none zero = refl
  size_none (suc n) = size_none n
naming_count d floor n (w ∷ ws) a =
    let rest = naming_count d (suc w.replica) n ws a.2 in
    let absent : naming d ws w.replica ≡ false = and_left (listed (replicas_of ws) w.replica)
    (same_decision (name_in ws w.replica) d) (not_listed (suc w.replica) n w.replica (replicas_of ws) (omega arith) a.2) in
    let count = sum_by-cons (λ (u : Named). cond (same_decision u.decision d) 1 0) w ws in
    elim (cases_Bool (same_decision w.decision d)) [
      | inl e ↦
          let same = size_same (naming d (w ∷ ws)) (λ r. (w.replica == r) || naming d ws r) n
          (λ r _. elim (cases_Bool (w.replica == r)) [ inl i ↦ rw (i, e) refl | inr i ↦ rw i refl ]) in
          same ∙ size_add (naming d ws) w.replica n a.1 absent ∙ ap suc rest ∙ sym (count ∙ (rw e (omega arith)))
      | inr e ↦
          let same = size_same (naming d (w ∷ ws)) (naming d ws) n (λ r _. elim (cases_Bool (w.replica == r)) [
            | inl i ↦
                rw (i, e) (sym (subst (λ (z : ℕ). naming d ws z ≡ false) (eqb-true w.replica r i) absent))
            | inr i ↦ rw i refl
          ]) in
          same ∙ rest ∙ sym (count ∙ (rw e (omega arith)))
    ]

length_of : (ws : List Named) → length (replicas_of ws) ≡ length ws
length_of [] = refl
length_of (w ∷ ws) = ap suc (length_of ws)

pub election_of_list : ElectionOfList
election_of_list c signed x d v ws a h m f = record {
  who = listed (replicas_of ws);
  names = name_in ws;
  exact = lists_are_sets _ (replicas_of ws) a ∙ length_of ws ∙ h;
  most = omega (arith, m, naming_count d 0 _ ws a);
  each = λ r _ e. f (record { replica = r; decision = name_in ws r }) (named_in ws r e);
}
