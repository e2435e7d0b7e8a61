-- More words allow no fewer certificates.
use Rattle.std.proofs.Common.{ℕ, inl, inr}
use Rattle.quorum_laws.proofs.Quorums.{weaker}
use Rattle.agreement_laws.specs.Words.{Id, Decision, Commit, Abort, Word, Vote, LogReply, Election}
use Rattle.agreement_laws.specs.Settings.{Setting}
use Rattle.agreement_laws.specs.Certificates.{Signed, Grows, Says, Voted, Tallied, Logged, Elected}
use Rattle.agreement_laws.specs.Certificates.{CanCommit, FastAbort, LoggedAbort, ConflictAbort, CanAbort}

module _ (c : Setting) (p q : Signed) (g : Grows p q) where
  pub Says-grows : (s r : ℕ) (w : Word) → Says c p s r w → Says c q s r w
  Says-grows s r w (inl b) = inl b
  Says-grows s r w (inr m) = inr (g s r w m)

  pub Voted-grows : (x : Id) (s : ℕ) (d : Decision) (k : ℕ) → Voted c p x s d k → Voted c q x s d k
  Voted-grows x s d k v = weaker _ _ (λ r _ h. Says-grows s r (Vote s r x d) h) v

  pub Tallied-grows : (x : Id) (d : Decision) → Tallied c p x d → Tallied c q x d
  Tallied-grows x Commit t = λ s i. Voted-grows x s Commit _ (t s i)
  Tallied-grows x Abort t = (t.0, t.1, Voted-grows x t.0 Abort _ t.2)

  pub Logged-grows : (x : Id) (d : Decision) (v : ℕ) → Logged c p x d v → Logged c q x d v
  Logged-grows x d v l = weaker _ _ (λ r _ h. (h.0, Says-grows (c.log_shard x) r (LogReply (c.log_shard x) r x d v h.0) h.1)) l

  pub Elected-grows : (x : Id) (d : Decision) (v : ℕ) → Elected c p x d v → Elected c q x d v
  Elected-grows x d v e = record {
    who = e.who;
    names = e.names;
    exact = e.exact;
    most = e.most;
    each = λ r l h. Says-grows (c.log_shard x) r (Election (c.log_shard x) r x (e.names r) v) (e.each r l h);
  }

  pub CanCommit-grows : (x : Id) → CanCommit c p x → CanCommit c q x
  CanCommit-grows x (inl h) = inl (λ s i. Voted-grows x s Commit _ (h s i))
  CanCommit-grows x (inr h) = inr (h.0, Logged-grows x Commit h.0 h.1)

  pub FastAbort-grows : (x : Id) → FastAbort c p x → FastAbort c q x
  FastAbort-grows x h = (h.0, h.1, Voted-grows x h.0 Abort _ h.2)

  pub LoggedAbort-grows : (x : Id) → LoggedAbort c p x → LoggedAbort c q x
  LoggedAbort-grows x h = (h.0, Logged-grows x Abort h.0 h.1)

  ConflictAbort-grows : (x : Id) → ConflictAbort c p x → ConflictAbort c q x
  ConflictAbort-grows x h = record {
    voter_shard = h.voter_shard;
    voter = h.voter;
    of_involved = h.of_involved;
    in_range = h.in_range;
    voted = Says-grows h.voter_shard h.voter (Vote h.voter_shard h.voter x Abort) h.voted;
    rival = h.rival;
    shard = h.shard;
    conflicts = h.conflicts;
    commits = CanCommit-grows h.rival h.commits;
  }

  pub CanAbort-grows : (x : Id) → CanAbort c p x → CanAbort c q x
  CanAbort-grows x (inl h) = inl (FastAbort-grows x h)
  CanAbort-grows x (inr (inl h)) = inr (inl (LoggedAbort-grows x h))
  CanAbort-grows x (inr (inr h)) = inr (inr (ConflictAbort-grows x h))
