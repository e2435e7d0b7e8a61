-- Counting and lock-in: what follows from the signed words of one moment.
use Rattle.std.proofs.Common.{◌≡◌, ℕ, Bool, zero, suc, ◌+◌, ◌*◌, ◌<◌, ◌≤◌, true, false}
use Rattle.std.proofs.Common.{◌&&◌, refl, arith, inl, inr, ◌⊎◌, sym, ◌∙◌, subst, List}
use Rattle.std.specs.List.{Contains}
use Rattle.std.proofs.lemmas.Bool.{and_parts, cases_lt, cases_order}
use Rattle.quorum_laws.specs.Numbers.{replicas, majority, commit_tally}
use Rattle.quorum_laws.specs.Sets.{shared, Quorum}
use Rattle.quorum_laws.proofs.Counts.{shared_within, some_member}
use Rattle.quorum_laws.proofs.Quorums.{fewer, both, one, correct_of}
use Rattle.agreement_laws.specs.Words.{Id, Decision, Commit, Abort, same_decision, Word, Vote, LogReply, Election}
use Rattle.agreement_laws.specs.Settings.{Setting, Sane}
use Rattle.agreement_laws.specs.Certificates.{Signed, Says, Voted, Tallied, Logged, Elected, CanCommit, FastAbort, LoggedAbort}
use Rattle.agreement_laws.specs.Laws.{OneElected}

-- what holds of the words of one correct replica, without its book
pub record IsHonest (c : Setting) (signed : Signed) (s r : ℕ) : Type 0 where
  pub one_vote : (x : Id) (d e : Decision) → Contains (signed s r) (Vote s r x d) → Contains (signed s r) (Vote s r x e) → d ≡ e
  pub one_decision : (x : Id) (d e : Decision) (v a b : ℕ) → Contains (signed s r) (LogReply s r x d v a) →
      Contains (signed s r) (LogReply s r x e v b) → d ≡ e
  pub first : (x : Id) (d : Decision) (a : ℕ) → Contains (signed s r) (LogReply s r x d 0 a) → Tallied c signed x d
  pub later : (x : Id) (d : Decision) (v a : ℕ) → Contains (signed s r) (LogReply s r x d v a) → 0 < v → Elected c signed x d v
  pub named : (x : Id) (d : Decision) (w : ℕ) → Contains (signed s r) (Election s r x d w) →
      (v a : ℕ) × (v < w) × Contains (signed s r) (LogReply s r x d v a)
  pub latest : (x : Id) (e : Decision) (w : ℕ) (d : Decision) (v a : ℕ) → Contains (signed s r) (Election s r x e w) →
      Contains (signed s r) (LogReply s r x d v a) → v < w → (u b : ℕ) × (v ≤ u) × (u < w) × Contains (signed s r) (LogReply s r x e u b)

abbrev pub AreHonest : Setting → Signed → Type 0
AreHonest c signed = (s r : ℕ) → c.faulty s r ≡ false → IsHonest c signed s r

same_yes : (d e : Decision) → same_decision d e ≡ true → d ≡ e
same_yes Commit Commit h = refl
same_yes Abort Abort h = refl
same_yes Commit Abort h = cc
same_yes Abort Commit h = cc

pub one_elected : OneElected
one_elected f who names d e h p q =
    let n = replicas f in
    let P : Decision → ℕ → Bool = λ g r. who r && same_decision (names r) g in
    let inside = λ (g : Decision) (r : ℕ) (_ : r < n) (k : P g r ≡ true). (and_parts (who r) (same_decision (names r) g) k).0 in
    let m = some_member (shared (P d) (P e)) n (omega (arith, shared_within (P d) (P e) who n (inside d) (inside e))) in
    let k = and_parts (P d m.0) (P e m.0) m.2 in
    sym (same_yes (names m.0) d (and_parts (who m.0) (same_decision (names m.0) d) k.0).1)
    ∙ same_yes (names m.0) e (and_parts (who m.0) (same_decision (names m.0) e) k.1).1

reply_at : (ws : List Word) (s r : ℕ) (x : Id) (d : Decision) (u v a : ℕ) → u ≡ v → Contains ws (LogReply s r x d u a) →
    Contains ws (LogReply s r x d v a)
reply_at ws s r x d u v a e h = subst (λ (z : ℕ). Contains ws (LogReply s r x d z a)) e h

module _ (c : Setting) (ok : Sane c) (signed : Signed) where
  -- what a correct replica says it signed
  pub signed_it : (s r : ℕ) (w : Word) → Says c signed s r w → c.faulty s r ≡ false → Contains (signed s r) w
  signed_it s r w (inl b) h = let e : true ≡ false = sym b ∙ h in cc
  signed_it s r w (inr m) h = m

  -- all but f of a quorum are correct
  pub correct : {k : ℕ} (j : ℕ) (s : ℕ) (P : ℕ → Type 0) → j + c.f ≤ k → Quorum (replicas c.f) k P →
      Quorum (replicas c.f) j (λ r. P r × (c.faulty s r ≡ false))
  correct j s P h q = both P (λ r. c.faulty s r ≡ false) (omega arith) q (correct_of (c.faulty s) (ok.few s))

  module _ (all : AreHonest c signed) where
    -- commit and abort votes that share a correct replica
    votes : (x : Id) (s a b : ℕ) → 6 * c.f + 2 ≤ a + b → Voted c signed x s Commit a → Voted c signed x s Abort b → ⊥
    votes x s a b h p q =
        let P : Decision → ℕ → Type 0 = λ d r. Says c signed s r (Vote s r x d) in
        let t = both {k = c.f + 1} (P Commit) (P Abort) (omega arith) p q in
        let o = one _ (omega arith) (correct 1 s (λ r. P Commit r × P Abort r) (omega arith) t) in
        let y = signed_it s o.0 (Vote s o.0 x Commit) o.2.0.0 o.2.1 in
        let z = signed_it s o.0 (Vote s o.0 x Abort) o.2.0.1 o.2.1 in
        let e = (all s o.0 o.2.1).one_vote x Commit Abort y z in
        cc

    -- the majority of an election
    naming : (x : Id) (d : Decision) (v : ℕ) → Elected c signed x d v →
        Quorum (replicas c.f) (majority c.f) (λ r. Says c signed (c.log_shard x) r (Election (c.log_shard x) r x d v))
    naming x d v e = record {
      who = λ r. e.who r && same_decision (e.names r) d;
      many = e.most;
      each = λ r l w. let p = and_parts (e.who r) (same_decision (e.names r) d) w in
          subst (λ z. Says c signed (c.log_shard x) r (Election (c.log_shard x) r x z v)) (same_yes (e.names r) d p.1) (e.each r l p.0);
    }

    -- a correct replica named what an election decided
    namer : (x : Id) (d : Decision) (v : ℕ) → Elected c signed x d v →
        (r : ℕ) × (c.faulty (c.log_shard x) r ≡ false) × Contains (signed (c.log_shard x) r) (Election (c.log_shard x) r x d v)
    namer x d v e =
        let s = c.log_shard x in
        let o = one _ (omega arith) (correct 1 s (λ r. Says c signed s r (Election s r x d v)) (omega arith) (naming x d v e)) in
        (o.0, o.2.1, signed_it s o.0 (Election s o.0 x d v) o.2.0 o.2.1)

    -- nothing is elected for view 0
    pub elected_above : (x : Id) (d : Decision) (v : ℕ) → Elected c signed x d v → 0 < v
    elected_above x d v e = let o = namer x d v e in let z = (all (c.log_shard x) o.0 o.1).named x d v o.2 in omega (arith, z.2)

    -- a decision that a correct replica logged came from tallies
    origin : (n : ℕ) (x : Id) (d : Decision) (v a r : ℕ) → v < n → c.faulty (c.log_shard x) r ≡ false →
        Contains (signed (c.log_shard x) r) (LogReply (c.log_shard x) r x d v a) → Tallied c signed x d
    origin zero x d v a r h b m = absurd (omega arith)
    origin (suc n) x d v a r h b m = elim (cases_lt 0 v) [
      | inl p ↦
          let o = namer x d v ((all (c.log_shard x) r b).later x d v a m p) in
          let z = (all (c.log_shard x) o.0 o.1).named x d v o.2 in
          origin n x d z.0 z.1 o.0 (omega (arith, z.2)) o.1 z.3
      | inr p ↦ let e : v ≡ 0 = omega arith in (all (c.log_shard x) r b).first x d a
          (subst (λ (k : ℕ). Contains (signed (c.log_shard x) r) (LogReply (c.log_shard x) r x d k a)) e m)
    ]

    -- A log certificate of view v fixes what correct replicas log above v. Its replicas and those whose words elected a
    -- later decision share a correct one. What that one named it had logged from v on: in v itself, or by induction.
    lock : (n : ℕ) (x : Id) (d : Decision) (v : ℕ) → Logged c signed x d v → (e : Decision) (w a r : ℕ) → w < n → v < w →
        c.faulty (c.log_shard x) r ≡ false → Contains (signed (c.log_shard x) r) (LogReply (c.log_shard x) r x e w a) → e ≡ d
    lock zero x d v q e w a r h l b m = absurd (omega arith)
    lock (suc n) x d v q e w a r h l b m =
        let s = c.log_shard x in
        let L : ℕ → Type 0 = λ i. (u : ℕ) × Says c signed s i (LogReply s i x d v u) in
        let N : ℕ → Type 0 = λ i. Says c signed s i (Election s i x e w) in
        let t = both {k = c.f + 1} L N (omega arith) q (naming x e w ((all s r b).later x e w a m (omega arith))) in
        let o = one _ (omega arith) (correct 1 s (λ i. L i × N i) (omega arith) t) in
        let i = o.0 in
        let y = signed_it s i (LogReply s i x d v o.2.0.0.0) o.2.0.0.1 o.2.1 in
        let z = signed_it s i (Election s i x e w) o.2.0.1 o.2.1 in
        let g = (all s i o.2.1).latest x e w d v o.2.0.0.0 z y l in
        elim (cases_lt v g.0) [
          | inl p ↦ lock n x d v q e g.0 g.1 i (omega (arith, g.3)) p o.2.1 g.4
          | inr p ↦ (all s i o.2.1).one_decision x e d v g.1 o.2.0.0.0 (reply_at (signed s i) s i x e g.0 v g.1 (omega (arith, g.2)) g.4) y
        ]

    correct_log : (x : Id) (d : Decision) (v : ℕ) → Logged c signed x d v →
        (r a : ℕ) × (c.faulty (c.log_shard x) r ≡ false) × Contains (signed (c.log_shard x) r) (LogReply (c.log_shard x) r x d v a)
    correct_log x d v q =
        let s = c.log_shard x in
        let o = one _ (omega arith) (correct 1 s (λ i. (u : ℕ) × Says c signed s i (LogReply s i x d v u)) (omega arith) q) in
        (o.0, o.2.0.0, o.2.1, signed_it s o.0 (LogReply s o.0 x d v o.2.0.0) o.2.0.1 o.2.1)

    logged_after : (x : Id) (d e : Decision) (v w : ℕ) → Logged c signed x d v → Logged c signed x e w → v < w → e ≡ d
    logged_after x d e v w p q l = let o = correct_log x e w q in lock (suc w) x d v p e w o.1 o.0 (omega arith) l o.2 o.3

    logged_at : (x : Id) (d e : Decision) (v : ℕ) → Logged c signed x d v → Logged c signed x e v → d ≡ e
    logged_at x d e v p q =
        let s = c.log_shard x in
        let P : Decision → ℕ → Type 0 = λ g i. (u : ℕ) × Says c signed s i (LogReply s i x g v u) in
        let o =
        one _ (omega arith) (correct 1 s (λ i. P d i × P e i) (omega arith) (both {k = 3 * c.f + 1} (P d) (P e) (omega arith) p q)) in
        (all s o.0 o.2.1).one_decision x d e v o.2.0.0.0 o.2.0.1.0 (signed_it s o.0 (LogReply s o.0 x d v o.2.0.0.0) o.2.0.0.1 o.2.1)
        (signed_it s o.0 (LogReply s o.0 x e v o.2.0.1.0) o.2.0.1.1 o.2.1)

    pub lock_in : (x : Id) (d e : Decision) (v w : ℕ) → Logged c signed x d v → Logged c signed x e w → d ≡ e
    lock_in x d e v w p q = elim (cases_order v w) [
      | inl h ↦ logged_at x d e w (subst (λ (k : ℕ). Logged c signed x d k) h p) q
      | inr (inl h) ↦ sym (logged_after x d e v w p q h)
      | inr (inr h) ↦ logged_after x e d w v q p h
    ]

    -- a commit certificate came from a commit tally in each involved shard
    pub tallied : (x : Id) → CanCommit c signed x → (s : ℕ) → c.involved x s ≡ true → Voted c signed x s Commit (commit_tally c.f)
    tallied x (inl h) s i = fewer _ (omega arith) (h s i)
    tallied x (inr h) s i = let o = correct_log x Commit h.0 h.1 in origin (suc h.0) x Commit h.0 o.1 o.0 (omega arith) o.2 o.3 s i

    pub counting : (x : Id) → CanCommit c signed x → FastAbort c signed x ⊎ LoggedAbort c signed x → ⊥
    counting x h (inl a) = votes x a.0 _ _ (omega arith) (tallied x h a.0 a.1) a.2
    counting x (inl h) (inr a) =
        let o = correct_log x Abort a.0 a.1 in
        let t = origin (suc a.0) x Abort a.0 o.1 o.0 (omega arith) o.2 o.3 in
        votes x t.0 _ _ (omega arith) (h t.0 t.1) t.2
    counting x (inr h) (inr a) = let e = lock_in x Commit Abort h.0 a.0 h.1 a.1 in cc
