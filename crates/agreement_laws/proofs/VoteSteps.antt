-- An act keeps what holds of a correct replica's votes and outcomes.
use Rattle.std.proofs.Common.{◌≡◌, ℕ, Bool, true, false, refl, ◌⊎◌, inl, inr, sym, ◌∙◌, ap, subst, List, ◌++◌, Option, Some, None}
use Rattle.std.specs.List.{Contains}
use Rattle.std.proofs.lemmas.List.Elements.{Contains-append_cases}
use Rattle.agreement_laws.specs.Words.{Id, Decision, Commit, Abort, Word, Vote}
use Rattle.agreement_laws.specs.Settings.{Setting, Sane}
use Rattle.agreement_laws.specs.Certificates.{Signed, CanCommit, Grows}
use Rattle.agreement_laws.specs.Replicas.{VoteState, Unvoted, Waiting, Cast, Book, is_standing, is_held, Act, Votes}
use Rattle.agreement_laws.specs.Replicas.{Waits, Ends, Logs, Repeats, Enters, Proposes, Adopts, after, words, IsClear, May}
use Rattle.agreement_laws.specs.Runs.{put_id}
use Rattle.agreement_laws.specs.Invariants.{VotesHold}
use Rattle.agreement_laws.proofs.Puts.{in_none, in_one, put_id_cases}
use Rattle.agreement_laws.proofs.Growth.{CanCommit-grows}
use Rattle.agreement_laws.proofs.Signings.{no_vote_in_reply, no_vote_in_election, vote_signed}

-- what stands and isn't held has an abort outcome
abort_outcome : (v : VoteState) (o : Option Decision) → is_standing v ≡ true → is_held v o ≡ false → o ≡ Some Abort
abort_outcome v None h k = let e : true ≡ false = sym h ∙ k in cc
abort_outcome v (Some Commit) h k = cc
abort_outcome v (Some Abort) h k = refl

module _ (c : Setting) (signed : Signed) (aborted : Id → Bool) (s r : ℕ) (book : Book) (x : Id) where
  abbrev Allowed : Act → Type 0
  Allowed a = May c signed aborted s book x a

  vote_kept : (a : Act) (d : Decision) → Allowed a → (book x).vote ≡ Cast d → (after a (book x)).vote ≡ Cast d
  vote_kept (Votes Commit) d (_, _, inl w) h = let e : Waiting ≡ Cast d = sym w ∙ h in cc
  vote_kept (Votes Commit) d (_, _, inr w) h = let e : Unvoted ≡ Cast d = sym w.0 ∙ h in cc
  vote_kept (Votes Abort) d (_, inl w) h = let e : Waiting ≡ Cast d = sym w ∙ h in cc
  vote_kept (Votes Abort) d (_, inr w) h = let e : Unvoted ≡ Cast d = sym w ∙ h in cc
  vote_kept Waits d m h = let e : Unvoted ≡ Cast d = sym m.1 ∙ h in cc
  vote_kept (Ends e) d m h = h
  vote_kept (Logs e) d m h = h
  vote_kept Repeats d m h = h
  vote_kept (Enters w) d m h = h
  vote_kept (Proposes e v) d m h = h
  vote_kept (Adopts e v) d m h = h

  abort_kept : (a : Act) → Allowed a → (book x).outcome ≡ Some Abort → (after a (book x)).outcome ≡ Some Abort
  abort_kept (Votes d) m h = h
  abort_kept Waits m h = h
  abort_kept (Ends Commit) m h = let e : None ≡ Some Abort = sym m.0 ∙ h in cc
  abort_kept (Ends Abort) m h = refl
  abort_kept (Logs e) m h = h
  abort_kept Repeats m h = h
  abort_kept (Enters w) m h = h
  abort_kept (Proposes e v) m h = h
  abort_kept (Adopts e v) m h = h

  commit_kept : (a : Act) → Allowed a → (book x).outcome ≡ Some Commit → (after a (book x)).outcome ≡ Some Commit
  commit_kept (Votes d) m h = h
  commit_kept Waits m h = h
  commit_kept (Ends Commit) m h = refl
  commit_kept (Ends Abort) m h = let e : None ≡ Some Commit = sym m.0 ∙ h in cc
  commit_kept (Logs e) m h = h
  commit_kept Repeats m h = h
  commit_kept (Enters w) m h = h
  commit_kept (Proposes e v) m h = h
  commit_kept (Adopts e v) m h = h

  abort_from : (a : Act) → Allowed a → (after a (book x)).outcome ≡ Some Abort → ((book x).outcome ≡ Some Abort) ⊎ (aborted x ≡ true)
  abort_from (Votes d) m h = inl h
  abort_from Waits m h = inl h
  abort_from (Ends Commit) m h = cc
  abort_from (Ends Abort) m h = inr m.1
  abort_from (Logs e) m h = inl h
  abort_from Repeats m h = inl h
  abort_from (Enters w) m h = inl h
  abort_from (Proposes e v) m h = inl h
  abort_from (Adopts e v) m h = inl h

  commit_from : (a : Act) → Allowed a → (after a (book x)).outcome ≡ Some Commit → ((book x).outcome ≡ Some Commit) ⊎ CanCommit c signed x
  commit_from (Votes d) m h = inl h
  commit_from Waits m h = inl h
  commit_from (Ends Commit) m h = inr m.1
  commit_from (Ends Abort) m h = cc
  commit_from (Logs e) m h = inl h
  commit_from Repeats m h = inl h
  commit_from (Enters w) m h = inl h
  commit_from (Proposes e v) m h = inl h
  commit_from (Adopts e v) m h = inl h

  standing_from : (a : Act) → Allowed a → is_standing (after a (book x)).vote ≡ true →
      (is_standing (book x).vote ≡ true) ⊎ IsClear c s book x
  standing_from (Votes Commit) (_, _, inl w) h = inl (ap is_standing w)
  standing_from (Votes Commit) (_, _, inr w) h = inr w.1
  standing_from (Votes Abort) m h = cc
  standing_from Waits m h = inr m.2
  standing_from (Ends e) m h = inl h
  standing_from (Logs e) m h = inl h
  standing_from Repeats m h = inl h
  standing_from (Enters w) m h = inl h
  standing_from (Proposes e v) m h = inl h
  standing_from (Adopts e v) m h = inl h

  -- a vote is signed only without an outcome
  pub vote_open : (a : Act) → Allowed a → (y : Id) (d : Decision) → Contains (words s r x a (book x)) (Vote s r y d) →
      (after a (book x)).outcome ≡ None
  vote_open (Votes Commit) m y d h = m.0
  vote_open (Votes Abort) m y d h = m.0
  vote_open Waits m y d h = absurd (in_none _ h)
  vote_open (Ends e) m y d h = absurd (in_none _ h)
  vote_open (Logs e) m y d h = let k = in_one _ _ h in cc
  vote_open Repeats m y d h = absurd (no_vote_in_reply s r x y d _ h)
  vote_open (Enters w) m y d h = absurd (no_vote_in_election s r x y w d _ h)
  vote_open (Proposes e v) m y d h = let k = in_one _ _ h in cc
  vote_open (Adopts e v) m y d h = let k = in_one _ _ h in cc

  -- a commit vote is signed once what the transaction depends on is committed
  vote_after_dependencies : (a : Act) → Allowed a → (u y : Id) → Contains (words s r x a (book x)) (Vote s r u Commit) →
      c.depends u y s ≡ true → (book y).outcome ≡ Some Commit
  vote_after_dependencies (Votes Commit) m u y h n = let e : Vote s r x Commit ≡ Vote s r u Commit =
      in_one _ _ h in let i : x ≡ u = cc in m.1 y (subst (λ (z : Id). c.depends z y s ≡ true) (sym i) n)
  vote_after_dependencies (Votes Abort) m u y h n = let e : Vote s r x Abort ≡ Vote s r u Commit = in_one _ _ h in cc
  vote_after_dependencies Waits m u y h n = absurd (in_none _ h)
  vote_after_dependencies (Ends e) m u y h n = absurd (in_none _ h)
  vote_after_dependencies (Logs e) m u y h n = let k = in_one _ _ h in cc
  vote_after_dependencies Repeats m u y h n = absurd (no_vote_in_reply s r x u Commit _ h)
  vote_after_dependencies (Enters w) m u y h n = absurd (no_vote_in_election s r x u w Commit _ h)
  vote_after_dependencies (Proposes e v) m u y h n = let k = in_one _ _ h in cc
  vote_after_dependencies (Adopts e v) m u y h n = let k = in_one _ _ h in cc

  pub VotesHold-step : Sane c → (a : Act) (own : List Word) → Allowed a → VotesHold c signed aborted s r own book →
      VotesHold c signed aborted s r (own ++ words s r x a (book x)) (put_id book x (after a (book x)))
  VotesHold-step ok a own m o =
      let t = after a (book x) in
      let ws = words s r x a (book x) in
      record {
        said = λ y d. put_id_cases (λ z u. Contains (own ++ ws) (Vote s r z d) → u.vote ≡ Cast d) book x t
            (λ h. elim (Contains-append_cases own ws _ h) [
              | inl k ↦ vote_kept a d m (o.said x d k)
              | inr k ↦ (vote_signed s r x x a (book x) d k).1
            ])
            (λ z n h. elim (Contains-append_cases own ws _ h) [
              | inl k ↦ o.said z d k
              | inr k ↦ absurd (n (vote_signed s r x z a (book x) d k).0)
            ]) y;
        ended_abort = put_id_cases (λ z u. u.outcome ≡ Some Abort → aborted z ≡ true) book x t
            (λ h. elim (abort_from a m h) [ inl k ↦ o.ended_abort x k | inr k ↦ k ])
            (λ z _ h. o.ended_abort z h);
        ended_commit = put_id_cases (λ z u. u.outcome ≡ Some Commit → CanCommit c signed z) book x t
            (λ h. elim (commit_from a m h) [ inl k ↦ o.ended_commit x k | inr k ↦ k ])
            (λ z _ h. o.ended_commit z h);
        dependencies = λ u y h n. put_id_cases
            (λ z v. (book z).outcome ≡ Some Commit → v.outcome ≡ Some Commit) book x t (commit_kept a m) (λ z _ e. e) y
            (elim (Contains-append_cases own ws _ h) [ inl k ↦ o.dependencies u y k n | inr k ↦ vote_after_dependencies a m u y k n ]);
        apart = put_id_cases (λ y u. (z : Id) → c.conflict y z s ≡ true → is_standing u.vote ≡ true →
            is_standing (put_id book x t z).vote ≡ true → (u.outcome ≡ Some Abort) ⊎ ((put_id book x t z).outcome ≡ Some Abort)) book x t
            (put_id_cases (λ z v. c.conflict x z s ≡ true →
            is_standing t.vote ≡ true → is_standing v.vote ≡ true → (t.outcome ≡ Some Abort) ⊎ (v.outcome ≡ Some Abort)) book x t
            (λ k _ _. let e : false ≡ true = sym (ok.not_itself x s) ∙ k in cc)
            (λ z n k h i. elim (standing_from a m h) [
              | inl j ↦ elim (o.apart x z k j i) [ inl l ↦ inl (abort_kept a m l) | inr l ↦ inr l ]
              | inr j ↦ inr (abort_outcome (book z).vote (book z).outcome i (j z k))
            ]))
            (λ y n'. put_id_cases (λ z v. c.conflict y z s ≡ true → is_standing (book y).vote ≡ true →
            is_standing v.vote ≡ true → ((book y).outcome ≡ Some Abort) ⊎ (v.outcome ≡ Some Abort)) book x t
            (λ k i h. elim (standing_from a m h) [
              | inl j ↦ elim (o.apart y x k i j) [ inl l ↦ inl l | inr l ↦ inr (abort_kept a m l) ]
              | inr j ↦ inl (abort_outcome (book y).vote (book y).outcome i (j y (ok.both_ways y x s k)))
            ])
            (λ z n k i h. o.apart y z k i h));
      }

-- what others sign and what else is shown does no harm
pub VotesHold-grows : (c : Setting) (p q : Signed) → Grows p q → (aborted more : Id → Bool) →
    ((x : Id) → aborted x ≡ true → more x ≡ true) → (s r : ℕ) (own : List Word) (book : Book) → VotesHold c p aborted s r own book →
    VotesHold c q more s r own book
VotesHold-grows c p q g aborted more k s r own book o = record {
  said = o.said;
  apart = o.apart;
  ended_abort = λ x h. k x (o.ended_abort x h);
  ended_commit = λ x h. CanCommit-grows c p q g x (o.ended_commit x h);
  dependencies = o.dependencies;
}
