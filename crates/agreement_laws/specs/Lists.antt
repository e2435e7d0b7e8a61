use Rattle.std.specs.Prelude.{◌≡◌, ℕ, ◌≤◌, List, [], ◌∷◌, length}
use Rattle.std.specs.List.{Contains, count_by}
use Rattle.quorum_laws.specs.Numbers.{replicas, log_quorum, majority}
use Rattle.quorum_laws.specs.Lists.{AreRising}
use Rattle.agreement_laws.specs.Words.{Id, Decision, same_decision, Vote, LogReply, Election}
use Rattle.agreement_laws.specs.Settings.{Setting}
use Rattle.agreement_laws.specs.Certificates.{Signed, Says, Voted, Logged, Elected}

-- Messages list signatures with their replicas strictly ascending. Such lists are the sets of `Certificates`.

abbrev pub VotesOfList : Type 0
VotesOfList =
    (c : Setting) (signed : Signed) (x : Id) (s k : ℕ) (d : Decision) (rs : List ℕ) →
    AreRising 0 (replicas c.f) rs → k ≤ length rs →
    ((r : ℕ) → Contains rs r → Says c signed s r (Vote s r x d)) →
    Voted c signed x s d k

abbrev pub LogOfList : Type 0
LogOfList =
    (c : Setting) (signed : Signed) (x : Id) (d : Decision) (v : ℕ) (rs : List ℕ) →
    AreRising 0 (replicas c.f) rs → log_quorum c.f ≤ length rs →
    ((r : ℕ) → Contains rs r →
    (current : ℕ) × Says c signed (c.log_shard x) r (LogReply (c.log_shard x) r x d v current)) →
    Logged c signed x d v

-- an election word without what all of a list have in common
pub record Named : Type 0 where
  pub replica : ℕ
  pub decision : Decision

abbrev pub replicas_of : List Named → List ℕ
replicas_of [] = []
replicas_of (w ∷ ws) = w.replica ∷ replicas_of ws

abbrev pub ElectionOfList : Type 0
ElectionOfList =
    (c : Setting) (signed : Signed) (x : Id) (d : Decision) (v : ℕ) (ws : List Named) →
    AreRising 0 (replicas c.f) (replicas_of ws) → length ws ≡ log_quorum c.f →
    majority c.f ≤ count_by (λ w. same_decision w.decision d) ws →
    ((w : Named) → Contains ws w →
    Says c signed (c.log_shard x) w.replica (Election (c.log_shard x) w.replica x w.decision v)) →
    Elected c signed x d v
