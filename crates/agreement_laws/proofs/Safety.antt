-- Conflict exclusion and agreement: the invariant, kept by each lawful event.
use Rattle.std.proofs.Common.{◌≡◌, ℕ, ◌<◌, ◌+◌, ◌*◌, true, false, refl, arith, ◌⊎◌}
use Rattle.std.proofs.Common.{inl, inr, sym, ◌∙◌, ap, subst, List, [], ◌∷◌, Some, None}
use Rattle.std.specs.List.{Contains}
use Rattle.std.proofs.lemmas.Bool.{cases_Bool, false_from_ne_true}
use Rattle.std.proofs.lemmas.List.Elements.{Contains-append_left, Contains-append_cases}
use Rattle.quorum_laws.specs.Numbers.{replicas}
use Rattle.quorum_laws.specs.Sets.{Quorum}
use Rattle.quorum_laws.proofs.Quorums.{weaker, both, one}
use Rattle.agreement_laws.specs.Words.{Id, Commit, Abort, Word, Vote}
use Rattle.agreement_laws.specs.Settings.{Setting, Sane}
use Rattle.agreement_laws.specs.Certificates.{Signed, Says, CanCommit, FastAbort, LoggedAbort, ConflictAbort, CanAbort, Grows}
use Rattle.agreement_laws.specs.Replicas.{Slot, is_standing, Act, after, words, May}
use Rattle.agreement_laws.specs.Runs.{Node, State, signed_of, Event, Acts, Lies, Shows, put_id, put_node, acted}
use Rattle.agreement_laws.specs.Runs.{lied, happens, IsLawful, run, AreLawful, start, answered, MayAnswer, answers}
use Rattle.agreement_laws.specs.Invariants.{VotesHold, InOrder, Bars, IsBlocked, Invariant}
use Rattle.agreement_laws.specs.Laws.{Counting, LockIn, Exclusion, Dependency, DependencyThere, CommitVotes, Voters}
use Rattle.agreement_laws.specs.Laws.{Agreement, FromInvariant, InEveryRun, HoldsAtStart, HoldsAfterEvent, HoldsAfterAnswer}
use Rattle.agreement_laws.proofs.Puts.{in_none, put_id_same, put_id_cases, put_node_cases}
use Rattle.agreement_laws.proofs.Growth.{CanCommit-grows, FastAbort-grows, LoggedAbort-grows}
use Rattle.agreement_laws.proofs.Signings.{vote_signed}
use Rattle.agreement_laws.proofs.VoteSteps.{vote_open, VotesHold-step, VotesHold-grows}
use Rattle.agreement_laws.proofs.LogSteps.{LogHolds-step, LogHolds-grows}
use Rattle.agreement_laws.proofs.Views.{AreHonest, signed_it, correct, elected_above, lock_in, tallied, counting}

module _ (c : Setting) (ok : Sane c) (st : State) (inv : Invariant c st) where
  abbrev Words : Signed
  Words = signed_of st

  pub all_honest : AreHonest c (signed_of st)
  all_honest = λ s r b. let z = inv.in_order s r b in record {
    one_vote = λ x d e h k. let p = sym (z.votes.said x d h) ∙ z.votes.said x e k in cc;
    one_decision = λ x. (z.logs x).one_decision;
    first = λ x. (z.logs x).first;
    later = λ x. (z.logs x).later;
    named = λ x. (z.logs x).named;
    latest = λ x. (z.logs x).latest;
  }

  -- a commit certificate has commit votes in the shard of each conflict
  votes_there : (x y : Id) (s : ℕ) → c.conflict x y s ≡ true → CanCommit c Words x →
      Quorum (5 * c.f + 1) (3 * c.f + 1) (λ r. Says c Words s r (Vote s r x Commit))
  votes_there x y s k p = tallied c ok Words all_honest x p s (ok.on_a_key x y s k)

  -- of two that conflict, both with a commit vote of one correct replica, one has an abort outcome there
  pub one_gave_way : (s r : ℕ) (x y : Id) → c.faulty s r ≡ false → c.conflict x y s ≡ true → Contains (Words s r) (Vote s r x Commit) →
      Contains (Words s r) (Vote s r y Commit) →
      (((st.nodes s r).book x).outcome ≡ Some Abort) ⊎ (((st.nodes s r).book y).outcome ≡ Some Abort)
  one_gave_way s r x y b k h i = let z =
      (inv.in_order s r b).votes in z.apart x y k (ap is_standing (z.said x Commit h)) (ap is_standing (z.said y Commit i))

  -- what has had an abort certificate shown cannot be committed
  pub no_commit : (x : Id) → st.aborted x ≡ true → CanCommit c (signed_of st) x → ⊥
  no_commit x a k = elim (inv.causes x a) [
    | inl p ↦ counting c ok Words all_honest x k p
    | inr p ↦
        let s = p.shard in
        let P : ℕ → Type 0 = λ r. Says c Words s r (Vote s r x Commit) in
        let B : ℕ → Type 0 = λ r. Bars c x p.rival s r (Words s r) in
        let o = one _ (omega arith) (correct c ok Words 1 s
        (λ r. P r × B r) (omega arith) (both {k = c.f + 1} P B (omega arith) (votes_there x p.rival s p.conflicts k) p.barred)) in
        elim o.2.0.1 [
          | inl b ↦ let e : true ≡ false = sym b ∙ o.2.1 in cc
          | inr q ↦ q.1 (signed_it c ok Words s o.0 (Vote s o.0 x Commit) o.2.0.0 o.2.1)
        ]
  ]

  pub excluded : (x y : Id) (s : ℕ) → CanCommit c (signed_of st) x → CanCommit c (signed_of st) y → c.conflict x y s ≡ true → ⊥
  excluded x y s p q k =
      let P : Id → ℕ → Type 0 = λ z r. Says c Words s r (Vote s r z Commit) in
      let t = both {k = c.f + 1} (P x) (P y) (omega arith) (votes_there x y s k p) (votes_there y x s (ok.both_ways x y s k) q) in
      let o = one _ (omega arith) (correct c ok Words 1 s (λ r. P x r × P y r) (omega arith) t) in
      let z = (inv.in_order s o.0 o.2.1).votes in
      elim (one_gave_way s o.0 x y o.2.1 k (signed_it c ok Words s o.0 (Vote s o.0 x Commit) o.2.0.0 o.2.1)
      (signed_it c ok Words s o.0 (Vote s o.0 y Commit) o.2.0.1 o.2.1)) [
        | inl e ↦ no_commit x (z.ended_abort x e) p
        | inr e ↦ no_commit y (z.ended_abort y e) q
      ]

  pub committed_there : (x y : Id) (s : ℕ) → CanCommit c (signed_of st) x → c.depends x y s ≡ true →
      (r : ℕ) × (c.faulty s r ≡ false) × (((st.nodes s r).book y).outcome ≡ Some Commit)
  committed_there x y s p k =
      let v = tallied c ok Words all_honest x p s (ok.of_a_key x y s k) in
      let o = one _ (omega arith) (correct c ok Words 1 s (λ r. Says c Words s r (Vote s r x Commit)) (omega arith) v) in
      (o.0, o.2.1, (inv.in_order s o.0 o.2.1).votes.dependencies x y (signed_it c ok Words s o.0 (Vote s o.0 x Commit) o.2.0 o.2.1) k)

  pub needed : (x y : Id) (s : ℕ) → CanCommit c (signed_of st) x → c.depends x y s ≡ true → CanCommit c (signed_of st) y
  needed x y s p k =
      let o = committed_there x y s p k in
      (inv.in_order s o.0 o.1).votes.ended_commit y o.2

  pub voted : (x : Id) (s : ℕ) → CanCommit c (signed_of st) x → c.involved x s ≡ true →
      (r : ℕ) × (r < replicas c.f) × (c.faulty s r ≡ false) × Contains (signed_of st s r) (Vote s r x Commit)
  voted x s p i =
      let o = one _ (omega arith)
      (correct c ok Words 1 s (λ r. Says c Words s r (Vote s r x Commit)) (omega arith) (tallied c ok Words all_honest x p s i)) in
      (o.0, o.1, o.2.1, signed_it c ok Words s o.0 (Vote s o.0 x Commit) o.2.0 o.2.1)

  pub no_abort : (x : Id) → CanCommit c (signed_of st) x → CanAbort c (signed_of st) x → ⊥
  no_abort x k (inl a) = counting c ok Words all_honest x k (inl a)
  no_abort x k (inr (inl a)) = counting c ok Words all_honest x k (inr a)
  no_abort x k (inr (inr a)) = excluded x a.rival a.shard k a.commits a.conflicts

-- The laws of a state.

pub counting_of : FromInvariant Counting
counting_of c ok st inv =
    let none = counting c ok (signed_of st) (all_honest c ok st inv) in
    record { no_fast_abort = λ x k a. none x k (inl a); no_logged_abort = λ x k a. none x k (inr a) }

pub lock_in_of : FromInvariant LockIn
lock_in_of c ok st inv x d e v w = lock_in c ok (signed_of st) (all_honest c ok st inv) x d e v w

pub exclusion_of : FromInvariant Exclusion
exclusion_of c ok st inv x y s p q = false_from_ne_true (c.conflict x y s) (excluded c ok st inv x y s p q)

pub dependency_of : FromInvariant Dependency
dependency_of c ok st inv = needed c ok st inv

pub dependency_there_of : FromInvariant DependencyThere
dependency_there_of c ok st inv = committed_there c ok st inv

pub commit_votes_of : FromInvariant CommitVotes
commit_votes_of c ok st inv x s p k = tallied c ok (signed_of st) (all_honest c ok st inv) x p s k

pub voters_of : FromInvariant Voters
voters_of c ok st inv = voted c ok st inv

pub agreement_of : FromInvariant Agreement
agreement_of c ok st inv = record {
  none_shown = λ x k. false_from_ne_true (st.aborted x) (λ a. no_commit c ok st inv x a k);
  none_possible = no_abort c ok st inv;
}

-- One replica goes on, to more words.
module _ (c : Setting) (ok : Sane c) (st : State) (inv : Invariant c st) (s r : ℕ) (p : Node) where
  abbrev pub next : State
  next = record st { nodes = put_node st.nodes s r p }

  grows : ((w : Word) → Contains (st.nodes s r).own w → Contains p.own w) → Grows (signed_of st) (signed_of next)
  grows g = put_node_cases (λ t q z. (w : Word) → Contains (st.nodes t q).own w → Contains z.own w) st.nodes s r p g (λ t q w k. k)

  -- what is in order stays so while others sign
  stays : Grows (signed_of st) (signed_of next) → (t q : ℕ) (n : Node) → InOrder c (signed_of st) st.aborted t q n →
      InOrder c (signed_of next) st.aborted t q n
  stays g t q n z = record {
    votes = VotesHold-grows c (signed_of st) (signed_of next) g st.aborted st.aborted (λ _ h. h) t q n.own n.book z.votes;
    logs = λ x. LogHolds-grows c (signed_of st) (signed_of next) g t q n.own x _ (z.logs x);
  }

  Invariant-node : ((w : Word) → Contains (st.nodes s r).own w → Contains p.own w)
      → (c.faulty s r ≡ false → InOrder c (signed_of st) st.aborted s r p)
      → ((x y : Id) → c.conflict x y s ≡ true → CanCommit c (signed_of st) y → Bars c x y s r (st.nodes s r).own → Bars c x y s r p.own)
      → Invariant c next
  Invariant-node up order bars =
      let g = grows up in
      record {
        in_order = put_node_cases (λ t q z. c.faulty t q ≡ false → InOrder c (signed_of next) st.aborted t q z) st.nodes s r p
            (λ b. stays g s r p (order b))
            (λ t q b. stays g t q (st.nodes t q) (inv.in_order t q b));
        causes = λ x a. elim (inv.causes x a) [
          | inl (inl k) ↦ inl (inl (FastAbort-grows c (signed_of st) (signed_of next) g x k))
          | inl (inr k) ↦ inl (inr (LoggedAbort-grows c (signed_of st) (signed_of next) g x k))
          | inr k ↦ inr (record {
            rival = k.rival;
            shard = k.shard;
            conflicts = k.conflicts;
            commits = CanCommit-grows c (signed_of st) (signed_of next) g k.rival k.commits;
            barred = weaker _ _ (λ q _ b.
                put_node_cases (λ t i z. c.conflict x k.rival t ≡ true →
                Bars c x k.rival t i (st.nodes t i).own → Bars c x k.rival t i z.own) st.nodes s r p
                (λ e. bars x k.rival e k.commits) (λ t i _ j. j) k.shard q k.conflicts b) k.barred;
          })
        ];
      }

module _ (c : Setting) (ok : Sane c) where
  lies : (st : State) → Invariant c st → (s r : ℕ) (w : Word) → c.faulty s r ≡ true → Invariant c (happens st (Lies s r w))
  lies st inv s r w b = Invariant-node c ok st inv s r (lied (st.nodes s r) w)
      (λ v k. Contains-append_left _ (w ∷ []) v k)
      (λ k. let e : true ≡ false = sym b ∙ k in cc)
      (λ x y _ _ _. inl b)

  -- A replica that bars x goes on to bar it: a commit vote for x would need an abort outcome of the rival, which
  -- can be committed.
  bars_kept : (st : State) → Invariant c st → (s r : ℕ) (p : Node) (x : Id) (a : Act) → May c (signed_of st) st.aborted s p.book x a →
      VotesHold c (signed_of st) st.aborted s r p.own p.book → (u y : Id) → c.conflict u y s ≡ true → CanCommit c (signed_of st) y →
      Bars c u y s r p.own → Bars c u y s r (acted s r p x a).own
  bars_kept st inv s r p x a m z u y k cy (inl e) = inl e
  bars_kept st inv s r p x a m z u y k cy (inr e) =
      let ws = words s r x a (p.book x) in
      let o = VotesHold-step c (signed_of st) st.aborted s r p.book x ok a p.own m z in
      inr (
        Contains-append_left p.own ws _ e.0,
        λ i. elim (Contains-append_cases p.own ws _ i) [
          | inl j ↦ e.1 j
          | inr j ↦
              elim (o.apart u y k (ap is_standing (o.said u Commit i))
              (ap is_standing (o.said y Commit (Contains-append_left p.own ws _ e.0)))) [
                | inl l ↦
                    let n = vote_open c (signed_of st) st.aborted s r p.book x a m u Commit j in
                    let w = (vote_signed s r x u a (p.book x) Commit j).0 in
                    let q : (put_id p.book x (after a (p.book x)) u).outcome ≡ None =
                    subst (λ (v : Id). (put_id p.book x (after a (p.book x)) v).outcome ≡ None)
                    (sym w) (subst (λ (t : Slot). t.outcome ≡ None) (sym (put_id_same p.book x (after a (p.book x)))) n) in
                    let f : None ≡ Some Abort = sym q ∙ l in cc
                | inr l ↦ no_commit c ok st inv y (o.ended_abort y l) cy
              ]
        ],
      )

  -- what holds after several acts of one replica
  record Went (st : State) (s r : ℕ) (p q : Node) : Type 0 where
    pub up : (w : Word) → Contains p.own w → Contains q.own w
    pub order : InOrder c (signed_of st) st.aborted s r q
    pub bars : (u y : Id) → c.conflict u y s ≡ true → CanCommit c (signed_of st) y → Bars c u y s r p.own → Bars c u y s r q.own

  went : (st : State) → Invariant c st → (s r : ℕ) (p : Node) (acts : List (Id × Act)) → MayAnswer c (signed_of st) st.aborted s r p acts →
      InOrder c (signed_of st) st.aborted s r p → Went st s r p (answered s r p acts)
  went st inv s r p [] m o = record { up = λ w k. k; order = o; bars = λ u y k cy b. b }
  went st inv s r p (k ∷ rest) m o =
      let g = signed_of st in
      let up = elected_above c ok g (all_honest c ok st inv) in
      let next : InOrder c g st.aborted s r (acted s r p k.0 k.1) = record {
        votes = VotesHold-step c g st.aborted
            s r p.book k.0 ok k.1 p.own m.0 o.votes;
        logs = LogHolds-step c g s r p.own k.0 up st.aborted p.book k.1 m.0 o.logs;
      } in
      let z = went st inv s r (acted s r p k.0 k.1) rest m.1 next in
      record {
        up = λ w i. z.up w (Contains-append_left p.own (words s r k.0 k.1 (p.book k.0)) w i);
        order = z.order;
        bars = λ u y i cy b. z.bars u y i cy (bars_kept st inv s r p k.0 k.1 m.0 o.votes u y i cy b);
      }

  pub after_answer : (st : State) (s r : ℕ) (acts : List (Id × Act)) → Invariant c st → c.faulty s r ≡ false →
      MayAnswer c (signed_of st) st.aborted s r (st.nodes s r) acts → Invariant c (answers st s r acts)
  after_answer st s r acts inv b m =
      let w = went st inv s r (st.nodes s r) acts m (inv.in_order s r b) in
      Invariant-node c ok st inv s r (answered s r (st.nodes s r) acts) w.up (λ _. w.order) w.bars

  -- The first abort certificate of x is a conflict abort: the rival's voters bar x. One that has voted on both has
  -- an abort outcome of one of them, which isn't x's, and the rival can be committed.
  first_shown : (st : State) → Invariant c st → (x : Id) → st.aborted x ≡ false → ConflictAbort c (signed_of st) x →
      IsBlocked c (signed_of st) x
  first_shown st inv x e q =
      let g = signed_of st in
      let s = q.shard in
      let barred = λ (r : ℕ) (v : Says c g s r (Vote s r q.rival Commit)). let z : Bars c x q.rival s r (g s r) = elim v [
        | inl b ↦ inl b
        | inr v ↦ elim (cases_Bool (c.faulty s r)) [
          | inl b ↦ inl b
          | inr b ↦ inr (
            v,
            λ i. elim (one_gave_way c ok st inv s r x q.rival b q.conflicts i v) [
              | inl l ↦ let f : true ≡ false = sym ((inv.in_order s r b).votes.ended_abort x l) ∙ e in cc
              | inr l ↦ no_commit c ok st inv q.rival ((inv.in_order s r b).votes.ended_abort q.rival l) q.commits
            ],
          )
        ]
      ] in z in
      record {
        rival = q.rival;
        shard = s;
        conflicts = q.conflicts;
        commits = q.commits;
        barred = weaker _ _ (λ r _ v. barred r v) (votes_there c ok st inv q.rival x s (ok.both_ways x q.rival s q.conflicts) q.commits);
      }

  shows : (st : State) → Invariant c st → (x : Id) → CanAbort c (signed_of st) x → Invariant c (happens st (Shows x))
  shows st inv x k =
      let g = signed_of st in
      let more = put_id_cases (λ y b. st.aborted y ≡ true → b ≡ true) st.aborted x true (λ _. refl) (λ y _ e. e) in
      record {
        in_order = λ s r b. let z = inv.in_order s r b in record {
          votes = VotesHold-grows c g g
              (λ _ _ _ h. h) st.aborted (put_id st.aborted x true) more s r (st.nodes s r).own (st.nodes s r).book z.votes;
          logs = z.logs;
        };
        causes = put_id_cases (λ y b. b ≡ true → (FastAbort c g y ⊎ LoggedAbort c g y) ⊎ IsBlocked c g y) st.aborted x true
            (λ _. elim k [
              | inl q ↦ inl (inl q)
              | inr (inl q) ↦ inl (inr q)
              | inr (inr q) ↦ elim (cases_Bool (st.aborted x)) [
                | inl e ↦ inv.causes x e
                | inr e ↦ inr (first_shown st inv x e q)
              ]
            ])
            (λ y _ e. inv.causes y e);
      }

  pub after_event : (st : State) (e : Event) → Invariant c st → IsLawful c st e → Invariant c (happens st e)
  after_event st (Acts s r x a) inv m = after_answer st s r ((x, a) ∷ []) inv m.0 (m.1, tt)
  after_event st (Lies s r w) inv m = lies st inv s r w m
  after_event st (Shows x) inv m = shows st inv x m

  pub after_run : (es : List Event) (st : State) → Invariant c st → AreLawful c es st → Invariant c (run es st)
  after_run [] st inv m = inv
  after_run (e ∷ es) st inv m = after_run es (happens st e) (after_event st e inv m.0) m.1

pub at_start : HoldsAtStart
at_start c = record {
  in_order = λ s r b. record {
    votes = record {
      said = λ x d h. absurd (in_none _ h);
      apart = λ x y k h. cc;
      ended_abort = λ x e. cc;
      ended_commit = λ x e. cc;
      dependencies = λ x y h. absurd (in_none _ h);
    };
    logs = λ x. record {
      under = λ d v a h. absurd (in_none _ h);
      backed = tt;
      reached = λ d w h. absurd (in_none _ h);
      one_decision = λ d e v a b h. absurd (in_none _ h);
      first = λ d a h. absurd (in_none _ h);
      later = λ d v a h. absurd (in_none _ h);
      named = λ d w h. absurd (in_none _ h);
      latest = λ e w d v a h. absurd (in_none _ h);
    };
  };
  causes = λ x a. cc;
}

pub after_each_event : HoldsAfterEvent
after_each_event c ok st e inv m = after_event c ok st e inv m

pub after_each_answer : HoldsAfterAnswer
after_each_answer c ok st s r acts inv b m = after_answer c ok st s r acts inv b m

pub in_every_run : InEveryRun Invariant
in_every_run c ok es m = after_run c ok es start (at_start c) m
