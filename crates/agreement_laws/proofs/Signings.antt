-- Which words an act signs.
use Rattle.std.proofs.Common.{◌≡◌, ℕ, Option, Some, None}
use Rattle.std.specs.List.{Contains}
use Rattle.agreement_laws.specs.Words.{Id, Decision, Vote, LogReply, Election}
use Rattle.agreement_laws.specs.Replicas.{Cast, LogCell, Slot, Act, Votes, Waits, Ends, Logs, Repeats}
use Rattle.agreement_laws.specs.Replicas.{Enters, Proposes, Adopts, after, reply_of, election_of, words}
use Rattle.agreement_laws.proofs.Puts.{in_none, in_one}

module _ (s r : ℕ) (x y : Id) where
  pub no_vote_in_reply : (d : Decision) (k : Option LogCell) → Contains (reply_of s r x k) (Vote s r y d) → ⊥
  no_vote_in_reply d None h = in_none _ h
  no_vote_in_reply d (Some k) h = let e = in_one _ _ h in cc

  pub no_vote_in_election : (w : ℕ) (d : Decision) (k : Option LogCell) → Contains (election_of s r x w k) (Vote s r y d) → ⊥
  no_vote_in_election w d None h = in_none _ h
  no_vote_in_election w d (Some k) h = let e = in_one _ _ h in cc

  reply_in_reply : (d : Decision) (v a : ℕ) (k : Option LogCell) → Contains (reply_of s r x k) (LogReply s r y d v a) → y ≡ x
  reply_in_reply d v a None h = absurd (in_none _ h)
  reply_in_reply d v a (Some k) h = let e = in_one _ _ h in cc

  no_election_in_reply : (d : Decision) (w : ℕ) (k : Option LogCell) → Contains (reply_of s r x k) (Election s r y d w) → ⊥
  no_election_in_reply d w None h = in_none _ h
  no_election_in_reply d w (Some k) h = let e = in_one _ _ h in cc

  no_reply_in_election : (u : ℕ) (d : Decision) (v a : ℕ) (k : Option LogCell) → Contains (election_of s r x u k) (LogReply s r y d v a) → ⊥
  no_reply_in_election u d v a None h = in_none _ h
  no_reply_in_election u d v a (Some k) h = let e = in_one _ _ h in cc

  election_in_election : (u : ℕ) (d : Decision) (w : ℕ) (k : Option LogCell) → Contains (election_of s r x u k) (Election s r y d w) → y ≡ x
  election_in_election u d w None h = absurd (in_none _ h)
  election_in_election u d w (Some k) h = let e = in_one _ _ h in cc

  -- a vote is of the act's transaction, and the book has it afterwards
  pub vote_signed : (a : Act) (t : Slot) (d : Decision) → Contains (words s r x a t) (Vote s r y d) → (y ≡ x) × ((after a t).vote ≡ Cast d)
  vote_signed (Votes e) t d h = let k : Vote s r x e ≡ Vote s r y d = in_one _ _ h in ((cc), (cc))
  vote_signed Waits t d h = absurd (in_none _ h)
  vote_signed (Ends e) t d h = absurd (in_none _ h)
  vote_signed (Logs e) t d h = let k = in_one _ _ h in cc
  vote_signed Repeats t d h = absurd (no_vote_in_reply d t.cell h)
  vote_signed (Enters w) t d h = absurd (no_vote_in_election w d t.cell h)
  vote_signed (Proposes e v) t d h = let k = in_one _ _ h in cc
  vote_signed (Adopts e v) t d h = let k = in_one _ _ h in cc

  pub reply_signed : (a : Act) (t : Slot) (d : Decision) (v b : ℕ) → Contains (words s r x a t) (LogReply s r y d v b) → y ≡ x
  reply_signed (Votes e) t d v b h = let k = in_one _ _ h in cc
  reply_signed Waits t d v b h = absurd (in_none _ h)
  reply_signed (Ends e) t d v b h = absurd (in_none _ h)
  reply_signed (Logs e) t d v b h = let k = in_one _ _ h in cc
  reply_signed Repeats t d v b h = reply_in_reply d v b t.cell h
  reply_signed (Enters w) t d v b h = absurd (no_reply_in_election w d v b t.cell h)
  reply_signed (Proposes e u) t d v b h = let k = in_one _ _ h in cc
  reply_signed (Adopts e u) t d v b h = let k = in_one _ _ h in cc

  pub election_signed : (a : Act) (t : Slot) (d : Decision) (w : ℕ) → Contains (words s r x a t) (Election s r y d w) → y ≡ x
  election_signed (Votes e) t d w h = let k = in_one _ _ h in cc
  election_signed Waits t d w h = absurd (in_none _ h)
  election_signed (Ends e) t d w h = absurd (in_none _ h)
  election_signed (Logs e) t d w h = let k = in_one _ _ h in cc
  election_signed Repeats t d w h = absurd (no_election_in_reply d w t.cell h)
  election_signed (Enters u) t d w h = election_in_election u d w t.cell h
  election_signed (Proposes e u) t d w h = let k = in_one _ _ h in cc
  election_signed (Adopts e u) t d w h = let k = in_one _ _ h in cc
