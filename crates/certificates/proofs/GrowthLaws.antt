-- What is proved stays proved, as more is accepted and as votes are added.
use Rattle.std.proofs.Common.{◌≡◌, ℕ, zero, suc, ◌≤◌, ◌==◌, Bool, true, false, cond, ◌||◌, ◌&&◌, List, [], ◌∷◌, ◌++◌, refl, sym, ap, ◌∙◌}
use Rattle.std.proofs.Common.{subst, arith}
use Rattle.std.specs.List.{list_any, list_all, All}
use Rattle.std.proofs.lemmas.Bool.{and_parts}
use Rattle.std.proofs.lemmas.List.Elements.{All-cons, All-head, All-tail}
use Rattle.std.proofs.lemmas.List.Folds.{list_all-append}
use Rattle.std.proofs.lemmas.List.Sums.{AllPass-from_list_all, list_all-from_AllPass}
use Rattle.basil_types.specs.declared.party.Decision.{Decision}
use Rattle.basil_types.specs.declared.party.Decision.TheVariants.{Commit, Abort}
use Rattle.basil_types.specs.Setting.{Setting}
use Rattle.basil_types.specs.Transaction.{TransactionValue, id}
use Rattle.frame_views.specs.Signed.{vote_signed, tally_signed, tallies_signed, one_logged, logged_signed}
use Rattle.frame_views.specs.Values.{VoteValue, TallyValue, LogValue, LoggedValue, CertificateValue}
use Rattle.quorum_laws.specs.Numbers.{replicas, commit_tally, abort_tally, fast_abort}
use Rattle.quorum_laws.specs.Sets.{size}
use Rattle.certificates.specs.Accepted.{Accepted, accepts, AllAccepted}
use Rattle.certificates.specs.Voters.{voters, Voted, loggers}
use Rattle.certificates.specs.Tallies.{lists, VotedInOne, CommitTallied, AbortTallied, Tallied}
use Rattle.certificates.specs.Deciding.{HasGoodForm, LoggedAs, Proves}
use Rattle.certificates.specs.Laws.{ProofsGrow, LongerTallies, LongerFastAborts, LongerLogs}
use Rattle.certificates.proofs.DecideLaws.{proves_exactly}
use Rattle.certificates.proofs.RestLaws.{certificates_carry}

good_form : (A : Accepted) (c : Setting) (t : TransactionValue) (d : Decision) (certificate : CertificateValue) → Proves A c t d certificate
    → HasGoodForm t
good_form A c t Commit certificate k = k.form
good_form A c t Abort certificate k = k.form

pub proofs_grow : ProofsGrow
proofs_grow A B c t d certificate i fits m k =
    let f = good_form A c t d certificate k in
    (proves_exactly B c t d certificate i fits f).0
    (certificates_carry A B c t d certificate
    (λ s _ e. m s.party s.words s.signature e) ((proves_exactly A c t d certificate i fits f).1 k))

-- ---- one vote more

size_more : (p q : ℕ → Bool) (n : ℕ) → ((r : ℕ) → p r ≡ true → q r ≡ true) → size p n ≤ size q n
size_more p q zero h = omega arith
size_more p q (suc n) h = by (p n) (q n) (h n) (size_more p q n h) where
  by : (a b : Bool) → (a ≡ true → b ≡ true) → size p n ≤ size q n → cond a (suc (size p n)) (size p n) ≤ cond b (suc (size q n)) (size q n)
  by true true f h = omega arith
  by true false f h = absurd (let e = f refl in cc)
  by false true f h = omega arith
  by false false f h = h

any_more : {X : Type 0} (p : X → Bool) (before after : List X) (x : X) → list_any p (before ++ after) ≡ true
    → list_any p (before ++ x ∷ after) ≡ true
any_more p [] after x h = by (p x) where
  by : (b : Bool) → (b || list_any p after) ≡ true
  by true = refl
  by false = h
any_more p (y ∷ ys) after x h = by (p y) h (λ k. any_more p ys after x k) where
  by : (b : Bool) → (b || list_any p (ys ++ after)) ≡ true → (list_any p (ys ++ after) ≡ true → list_any p (ys ++ x ∷ after) ≡ true)
      → (b || list_any p (ys ++ x ∷ after)) ≡ true
  by true h later = refl
  by false h later = later h

abbrev tally_of : ℕ → List VoteValue → TallyValue
tally_of shard votes = record { shard = shard; votes = votes }

voted_more : (A : Accepted) (f : ℕ) (x : List ℕ) (d : Decision) (needed shard : ℕ) (before after : List VoteValue) (vote : VoteValue)
    → Voted A f x d needed (tally_of shard (before ++ after)) → Voted A f x d needed (tally_of shard (before ++ vote ∷ after))
voted_more A f x d needed shard before after vote h =
    let more =
    size_more (voters A x d (tally_of shard (before ++ after))) (voters A x d (tally_of shard (before ++ vote ∷ after))) (replicas f)
    (λ r k. any_more (λ (v : VoteValue). (v.replica == r) && accepts A (vote_signed shard x d v)) before after vote k) in
    omega arith

each_more : (A : Accepted) (f : ℕ) (x : List ℕ)
    (d : Decision) (needed shard : ℕ) (before after : List VoteValue) (vote : VoteValue) (front back : List TallyValue)
    → All (Voted A f x d needed) (front ++ tally_of shard (before ++ after) ∷ back)
    → All (Voted A f x d needed) (front ++ tally_of shard (before ++ vote ∷ after) ∷ back)
each_more A f x d needed shard before after vote [] back h =
    All-cons (Voted A f x d needed) (tally_of shard (before ++ vote ∷ after)) back
    (voted_more A f x d needed shard before after vote (All-head (Voted A f x d needed) (tally_of shard (before ++ after)) back h))
    (All-tail (Voted A f x d needed) (tally_of shard (before ++ after)) back h)
each_more A f x d needed shard before after vote (t ∷ ts) back h =
    All-cons (Voted A f x d needed) t (ts ++ tally_of shard (before ++ vote ∷ after) ∷ back)
    (All-head (Voted A f x d needed) t (ts ++ tally_of shard (before ++ after) ∷ back) h)
    (each_more A f x d needed shard before after vote ts back
    (All-tail (Voted A f x d needed) t (ts ++ tally_of shard (before ++ after) ∷ back) h))

same_lists : (shard : ℕ) (some more : List VoteValue) (front back : List TallyValue) (s : ℕ)
    → lists (front ++ tally_of shard more ∷ back) s ≡ lists (front ++ tally_of shard some ∷ back) s
same_lists shard some more [] back s = refl
same_lists shard some more (t ∷ ts) back s = ap (λ b. (t.shard == s) || b) (same_lists shard some more ts back s)

and_join : (a b : Bool) → a ≡ true → b ≡ true → (a && b) ≡ true
and_join a b h k = ap (λ c. c && b) h ∙ k

tally_more : (A : Accepted) (x : List ℕ) (d : Decision) (shard : ℕ) (before after : List VoteValue) (vote : VoteValue)
    → accepts A (vote_signed shard x d vote) ≡ true → list_all (accepts A) (tally_signed x d (tally_of shard (before ++ after))) ≡ true
    → list_all (accepts A) (tally_signed x d (tally_of shard (before ++ vote ∷ after))) ≡ true
tally_more A x d shard [] after vote h k = and_join _ _ h k
tally_more A x d shard (v ∷ vs) after vote h k =
    let both = and_parts (accepts A (vote_signed shard x d v)) (list_all (accepts A) (tally_signed x d (tally_of shard (vs ++ after)))) k in
    and_join _ _ both.0 (tally_more A x d shard vs after vote h both.1)

signed_parts : (A : Accepted) (x : List ℕ) (d : Decision) (t : TallyValue) (ts : List TallyValue)
    → list_all (accepts A) (tallies_signed x d (t ∷ ts)) ≡ true
    → (list_all (accepts A) (tally_signed x d t) ≡ true) × (list_all (accepts A) (tallies_signed x d ts) ≡ true)
signed_parts A x d t ts h = and_parts _ _ (sym (list_all-append (accepts A) (tally_signed x d t) (tallies_signed x d ts)) ∙ h)

signed_joined : (A : Accepted) (x : List ℕ) (d : Decision) (t : TallyValue) (ts : List TallyValue)
    → list_all (accepts A) (tally_signed x d t) ≡ true → list_all (accepts A) (tallies_signed x d ts) ≡ true
    → list_all (accepts A) (tallies_signed x d (t ∷ ts)) ≡ true
signed_joined A x d t ts h k = list_all-append (accepts A) (tally_signed x d t) (tallies_signed x d ts) ∙ and_join _ _ h k

signed_more : (A : Accepted) (x : List ℕ)
    (d : Decision) (shard : ℕ) (before after : List VoteValue) (vote : VoteValue) (front back : List TallyValue)
    → accepts A (vote_signed shard x d vote) ≡ true
    → list_all (accepts A) (tallies_signed x d (front ++ tally_of shard (before ++ after) ∷ back)) ≡ true
    → list_all (accepts A) (tallies_signed x d (front ++ tally_of shard (before ++ vote ∷ after) ∷ back)) ≡ true
signed_more A x d shard before after vote [] back h k =
    let parts = signed_parts A x d (tally_of shard (before ++ after)) back k in
    signed_joined A x d (tally_of shard (before ++ vote ∷ after)) back (tally_more A x d shard before after vote h parts.0) parts.1
signed_more A x d shard before after vote (t ∷ ts) back h k =
    let parts = signed_parts A x d t (ts ++ tally_of shard (before ++ after) ∷ back) k in
    signed_joined A x d t (ts ++ tally_of shard (before ++ vote ∷ after) ∷ back) parts.0
    (signed_more A x d shard before after vote ts back h parts.1)

accepted_more : (A : Accepted) (x : List ℕ)
    (d : Decision) (shard : ℕ) (before after : List VoteValue) (vote : VoteValue) (front back : List TallyValue)
    → accepts A (vote_signed shard x d vote) ≡ true → AllAccepted A (tallies_signed x d (front ++ tally_of shard (before ++ after) ∷ back))
    → AllAccepted A (tallies_signed x d (front ++ tally_of shard (before ++ vote ∷ after) ∷ back))
accepted_more A x d shard before after vote front back h k =
    AllPass-from_list_all (accepts A) (tallies_signed x d (front ++ tally_of shard (before ++ vote ∷ after) ∷ back))
    (signed_more A x d shard before after vote front back h
    (list_all-from_AllPass (accepts A) (tallies_signed x d (front ++ tally_of shard (before ++ after) ∷ back)) k))

-- a list of one has nothing in front of it and nothing behind
alone_front : (front back : List TallyValue) (t u : TallyValue) → front ++ t ∷ back ≡ u ∷ [] → (front ≡ []) × (back ≡ []) × (t ≡ u)
alone_front [] back t u e = (refl, cc, cc)
alone_front (f ∷ []) back t u e = absurd cc
alone_front (f ∷ g ∷ fs) back t u e = absurd cc

commit_longer : (A : Accepted) (c : Setting)
    (t : TransactionValue) (shard : ℕ) (before after : List VoteValue) (vote : VoteValue) (front back : List TallyValue)
    → accepts A (vote_signed shard (id t) Commit vote) ≡ true → CommitTallied A c t (front ++ tally_of shard (before ++ after) ∷ back)
    → CommitTallied A c t (front ++ tally_of shard (before ++ vote ∷ after) ∷ back)
commit_longer A c t shard before after vote front back h k = record {
  voted = record {
    shards = λ s. same_lists shard (before ++ after) (before ++ vote ∷ after) front back s ∙ k.voted.shards s;
    votes = each_more A c.f (id t) Commit (commit_tally c.f) shard before after vote front back k.voted.votes;
  };
  accepted = accepted_more A (id t) Commit shard before after vote front back h k.accepted;
}

abort_longer : (A : Accepted) (c : Setting)
    (t : TransactionValue) (shard : ℕ) (before after : List VoteValue) (vote : VoteValue) (front back : List TallyValue)
    → accepts A (vote_signed shard (id t) Abort vote) ≡ true → AbortTallied A c t (front ++ tally_of shard (before ++ after) ∷ back)
    → AbortTallied A c t (front ++ tally_of shard (before ++ vote ∷ after) ∷ back)
abort_longer A c t shard before after vote front back h k =
    let one = alone_front front back (tally_of shard (before ++ after)) k.tally k.alone in
    let voted = subst (λ (u : TallyValue). VotedInOne A c t (id t) (abort_tally c.f) u) (sym one.2) k.voted in
    record {
      tally = tally_of shard (before ++ vote ∷ after);
      alone = ap (λ (f : List TallyValue). f ++ tally_of shard (before ++ vote ∷ after) ∷ back) one.0
          ∙ ap (λ (b : List TallyValue). tally_of shard (before ++ vote ∷ after) ∷ b) one.1;
      voted = record { shard = voted.shard; votes = voted_more A c.f (id t) Abort (abort_tally c.f) shard before after vote voted.votes };
      accepted = accepted_more A (id t) Abort shard before after vote front back h k.accepted;
    }

longer_by : (A : Accepted) (c : Setting)
    (t : TransactionValue) (d : Decision) (shard : ℕ) (before after : List VoteValue) (vote : VoteValue) (front back : List TallyValue)
    → accepts A (vote_signed shard (id t) d vote) ≡ true → Tallied A c t d (front ++ tally_of shard (before ++ after) ∷ back)
    → Tallied A c t d (front ++ tally_of shard (before ++ vote ∷ after) ∷ back)
longer_by A c t Commit shard before after vote front back h k = commit_longer A c t shard before after vote front back h k
longer_by A c t Abort shard before after vote front back h k = abort_longer A c t shard before after vote front back h k

pub longer_tallies : LongerTallies
longer_tallies A c t d tallies longer shard vote k adds h =
    subst (λ (ts : List TallyValue). Tallied A c t d ts) (sym adds.is)
    (longer_by A c t d shard adds.before adds.after vote adds.front adds.back h
    (subst (λ (ts : List TallyValue). Tallied A c t d ts) adds.was k))

pub longer_fast_aborts : LongerFastAborts
longer_fast_aborts A c t x shard before after vote k h = record {
  form = k.form;
  about = k.about;
  kind = record { shard = k.kind.shard; votes = voted_more A c.f x Abort (fast_abort c.f) shard before after vote k.kind.votes };
  accepted = AllPass-from_list_all (accepts A) (tally_signed x Abort (tally_of shard (before ++ vote ∷ after)))
      (tally_more A x Abort shard before after vote h
      (list_all-from_AllPass (accepts A) (tally_signed x Abort (tally_of shard (before ++ after))) k.accepted));
}

-- ---- one log reply more

abbrev logged_with : ℕ → Decision → ℕ → List LogValue → LoggedValue
logged_with shard d decided logs = record { shard = shard; decision = d; decided = decided; logs = logs }

replies_more : (A : Accepted) (x : List ℕ) (shard : ℕ) (d : Decision) (decided : ℕ) (before after : List LogValue) (reply : LogValue)
    → accepts A (one_logged shard x d decided reply) ≡ true
    → list_all (accepts A) (logged_signed x (logged_with shard d decided (before ++ after))) ≡ true
    → list_all (accepts A) (logged_signed x (logged_with shard d decided (before ++ reply ∷ after))) ≡ true
replies_more A x shard d decided [] after reply h k = and_join _ _ h k
replies_more A x shard d decided (l ∷ ls) after reply h k =
    let both = and_parts (accepts A (one_logged shard x d decided l))
    (list_all (accepts A) (logged_signed x (logged_with shard d decided (ls ++ after)))) k in
    and_join _ _ both.0 (replies_more A x shard d decided ls after reply h both.1)

logged_more : (A : Accepted) (c : Setting)
    (t : TransactionValue) (d : Decision) (x : List ℕ) (shard decided : ℕ) (before after : List LogValue) (reply : LogValue)
    → LoggedAs A c t d x (logged_with shard d decided (before ++ after))
    → LoggedAs A c t d x (logged_with shard d decided (before ++ reply ∷ after))
logged_more A c t d x shard decided before after reply k =
    let more = size_more (loggers A x (logged_with shard d decided (before ++ after)))
    (loggers A x (logged_with shard d decided (before ++ reply ∷ after))) (replicas c.f)
    (λ r h. any_more (λ (l : LogValue). (l.replica == r) && accepts A (one_logged shard x d decided l)) before after reply h) in
    record { decides = k.decides; shard = k.shard; replies = omega (arith, k.replies) }

all_replies_more : (A : Accepted) (x : List ℕ) (shard : ℕ) (d : Decision) (decided : ℕ) (before after : List LogValue) (reply : LogValue)
    → accepts A (one_logged shard x d decided reply) ≡ true
    → AllAccepted A (logged_signed x (logged_with shard d decided (before ++ after)))
    → AllAccepted A (logged_signed x (logged_with shard d decided (before ++ reply ∷ after)))
all_replies_more A x shard d decided before after reply h k =
    AllPass-from_list_all (accepts A) (logged_signed x (logged_with shard d decided (before ++ reply ∷ after)))
    (replies_more A x shard d decided before after reply h
    (list_all-from_AllPass (accepts A) (logged_signed x (logged_with shard d decided (before ++ after))) k))

pub longer_logs : LongerLogs
longer_logs A c t Commit x shard decided before after reply k h = record {
  form = k.form;
  about = k.about;
  kind = logged_more A c t Commit x shard decided before after reply k.kind;
  accepted = all_replies_more A x shard Commit decided before after reply h k.accepted;
}
longer_logs A c t Abort x shard decided before after reply k h = record {
  form = k.form;
  about = k.about;
  kind = logged_more A c t Abort x shard decided before after reply k.kind;
  accepted = all_replies_more A x shard Abort decided before after reply h k.accepted;
}
