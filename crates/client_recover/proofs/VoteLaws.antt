-- What is kept of votes tells what all that were taken tell.
use Rattle.std.proofs.Common.{◌≡◌, ℕ, Bool, true, false, cond, List, [], ◌∷◌, ◌++◌, length, map, take, Option, Some, None, refl, sym, ap}
use Rattle.std.proofs.Common.{◌∙◌, append-nil}
use Rattle.std.specs.Prelude.{filter, filter_map, find, ◌==◌, option_map, nat_le}
use Rattle.std.specs.List.{list_any, list_all}
use Rattle.std.proofs.Math.ListN.{length-map}
use Rattle.std.proofs.lemmas.List.{take-map}
use Rattle.std.proofs.lemmas.List.Elements.{filter_map-append}
use Rattle.basil_types.specs.Built.{or_else}
use Rattle.basil_types.specs.declared.party.Decision.{Decision}
use Rattle.basil_types.specs.declared.party.Decision.TheVariants.{Commit, Abort}
use Rattle.basil_types.specs.Setting.{Setting}
use Rattle.basil_types.specs.Transaction.{TransactionValue, id}
use Rattle.frame_views.specs.Values.{VotedValue, VoteValue, TallyValue, Commits, FastCommit}
use Rattle.node_steps.specs.Lists.{firsts, first_with, by_number}
use Rattle.quorum_laws.specs.Numbers.{replicas, fast_commit, commit_tally, abort_tally, fast_abort}
use Rattle.txn_meta.specs.Places.{involved}
use Rattle.client_recover.specs.declared.votes.CountedVote.{CountedVote}
use Rattle.client_recover.specs.Taken.{TakenValue, TakenVote, LogsValue}
use Rattle.client_recover.specs.Counting.{all_replicas, vote_in, certificate_in, same_voter, counted_votes, votes_for, has_votes}
use Rattle.client_recover.specs.Counting.{voted_in, tally_of, replies_of}
use Rattle.client_recover.specs.Counting as counting
use Rattle.client_recover.specs.Certifying.{certificate_of, each_has, lowest_with, by_fast_commit, by_fast_abort}
use Rattle.client_recover.specs.Certifying.{fast_abort_in, logs_commit}
use Rattle.client_recover.specs.Certifying.{settled, all_voted}
use Rattle.client_recover.specs.Certifying as certifying
use Rattle.client_recover.specs.Kept.{counted, is_by, has_voted, is_so, votes_so, are_enough, has_all, part_of, tally, each_enough}
use Rattle.client_recover.specs.Kept.{lowest_enough, tallies, fast_commit_by, fast_abort_of, fast_by, commit_logged, abort_logged}
use Rattle.client_recover.specs.Kept.{logged_by}
use Rattle.client_recover.proofs.Walks.{list_any-map, filter-map, find-map, filter_map-option_map, map-map, firsts-push}

-- what is kept of the votes that count
abbrev pub kept_votes : List TakenValue → List CountedVote
kept_votes taken = map counted (counted_votes taken)

-- ---- counts

votes_so-kept : (taken : List TakenValue) (d : Decision) (shard : ℕ) →
    votes_so (kept_votes taken) d shard ≡ map counted (votes_for taken shard d)
votes_so-kept taken d shard = filter-map counted (is_so shard d) (counted_votes taken)

pub enough-kept : (taken : List TakenValue) (d : Decision) (needed shard : ℕ) →
    are_enough (kept_votes taken) d needed shard ≡ has_votes taken shard d needed
enough-kept taken d needed shard =
    ap (λ n. nat_le needed n)
    (ap (λ (vs : List CountedVote). length vs) (votes_so-kept taken d shard) ∙ length-map (votes_for taken shard d) counted)

pub all-kept : (c : Setting) (taken : List TakenValue) (shard : ℕ) →
    has_all c (kept_votes taken) shard ≡ nat_le (replicas c.f) (voted_in taken shard)
all-kept c taken shard =
    ap (λ n. nat_le (replicas c.f) n)
    (ap (λ (vs : List CountedVote). length vs) (filter-map counted (λ (v : CountedVote). v.shard == shard) (counted_votes taken))
    ∙ length-map (filter (λ (v : VotedValue). v.shard == shard) (counted_votes taken)) counted)

pub all_voted-kept : (c : Setting) (t : TransactionValue) (taken : List TakenValue) →
    list_all (has_all c (kept_votes taken)) (involved c t) ≡ all_voted c t taken
all_voted-kept c t taken = ap (λ (f : ℕ → Bool). list_all f (involved c t)) (λ i shard. all-kept c taken shard i)

each-kept : (c : Setting) (t : TransactionValue) (taken : List TakenValue) (d : Decision) (needed : ℕ) →
    each_enough (involved c t) (kept_votes taken) d needed ≡ each_has c t taken d needed
each-kept c t taken d needed = ap (λ (f : ℕ → Bool). list_all f (involved c t)) (λ i shard. enough-kept taken d needed shard i)

lowest-kept : (c : Setting) (t : TransactionValue) (taken : List TakenValue) (d : Decision) (needed : ℕ) →
    lowest_enough (involved c t) (kept_votes taken) d needed ≡ lowest_with c t taken d needed
lowest-kept c t taken d needed = ap (λ (f : ℕ → Bool). find f (involved c t)) (λ i shard. enough-kept taken d needed shard i)

-- ---- tallies

numbered-kept : (numbers : List ℕ) (votes : List VotedValue) →
    by_number (λ (v : CountedVote). v.replica) numbers (map counted votes)
    ≡ map counted (by_number (λ (v : VotedValue). v.replica) numbers votes)
numbered-kept numbers votes =
    ap (λ (f : ℕ → Option CountedVote). filter_map f numbers) (λ i n. find-map counted (λ (v : CountedVote). v.replica == n) votes i)
    ∙ filter_map-option_map counted (first_with (λ (v : VotedValue). v.replica) votes) numbers

pub tally-kept : (c : Setting) (taken : List TakenValue) (d : Decision) (needed shard : ℕ) →
    tally c (kept_votes taken) d needed shard ≡ tally_of c taken d needed shard
tally-kept c taken d needed shard =
    let numbers = all_replicas c in
    let all = by_number (λ (v : VotedValue). v.replica) numbers (votes_for taken shard d) in
    ap (λ (vs : List VoteValue). let t : TallyValue = record { shard = shard; votes = vs } in t)
    (ap (λ vs. map part_of (take needed vs))
    (ap (λ vs. by_number (λ (v : CountedVote). v.replica) numbers vs) (votes_so-kept taken d shard)
    ∙ numbered-kept numbers (votes_for taken shard d))
    ∙ ap (map part_of) (take-map counted needed all) ∙ map-map counted part_of (take needed all))

tallies-kept : (c : Setting) (t : TransactionValue) (taken : List TakenValue) (d : Decision) (needed : ℕ) →
    tallies c (involved c t) (kept_votes taken) d needed ≡ map (tally_of c taken d needed) (involved c t)
tallies-kept c t taken d needed = ap (λ (f : ℕ → TallyValue). map f (involved c t)) (λ i shard. tally-kept c taken d needed shard i)

-- ---- what votes decide

fast_commit-kept : (c : Setting) (t : TransactionValue) (taken : List TakenValue) →
    fast_commit_by c (id t) (involved c t) (kept_votes taken) ≡ by_fast_commit c t taken
fast_commit-kept c t taken =
    ap (λ b. cond b
    (Some (certificate_of t (Commits (FastCommit (tallies c (involved c t) (kept_votes taken) Commit (fast_commit c.f)))))) None)
    (each-kept c t taken Commit (fast_commit c.f))
    ∙ ap (λ ts. cond (each_has c t taken Commit (fast_commit c.f)) (Some (certificate_of t (Commits (FastCommit ts)))) None)
    (tallies-kept c t taken Commit (fast_commit c.f))

fast_abort-kept : (c : Setting) (t : TransactionValue) (taken : List TakenValue) (lowest : Option ℕ) →
    fast_abort_of c (id t) (kept_votes taken) lowest ≡ option_map (fast_abort_in c t taken) lowest
fast_abort-kept c t taken None = refl
fast_abort-kept c t taken (Some shard) =
    ap (λ y. Some (certificate_of t (Rattle.frame_views.specs.Values.FastAbort y))) (tally-kept c taken Abort (fast_abort c.f) shard)

pub fast-kept : (c : Setting) (t : TransactionValue) (taken : List TakenValue) →
    fast_by c (id t) (involved c t) (kept_votes taken) ≡ or_else (by_fast_commit c t taken) (by_fast_abort c t taken)
fast-kept c t taken =
    ap (λ o. or_else o (fast_abort_of c (id t) (kept_votes taken) (lowest_enough (involved c t) (kept_votes taken) Abort (fast_abort c.f))))
    (fast_commit-kept c t taken)
    ∙ ap (or_else (by_fast_commit c t taken))
    (fast_abort-kept c t taken (lowest_enough (involved c t) (kept_votes taken) Abort (fast_abort c.f))
    ∙ ap (option_map (fast_abort_in c t taken)) (lowest-kept c t taken Abort (fast_abort c.f)))

-- ---- what votes let be logged

commit_logged-kept : (c : Setting) (t : TransactionValue) (taken : List TakenValue) →
    commit_logged c (involved c t) (kept_votes taken) ≡ logs_commit c t taken
commit_logged-kept c t taken =
    ap (λ b. cond b
    (Some (let l : LogsValue = record {
      decision = Commit;
      tallies = tallies c (involved c t) (kept_votes taken) Commit
          (commit_tally c.f);
    } in l)) None) (each-kept c t taken Commit (commit_tally c.f))
    ∙ ap (λ ts. cond (each_has c t taken Commit (commit_tally c.f))
    (Some (let l : LogsValue = record { decision = Commit; tallies = ts } in l)) None) (tallies-kept c t taken Commit (commit_tally c.f))

abort_logged-kept : (c : Setting) (taken : List TakenValue) (lowest : Option ℕ) →
    abort_logged c (kept_votes taken) lowest ≡ option_map (certifying.abort_logged c taken) lowest
abort_logged-kept c taken None = refl
abort_logged-kept c taken (Some shard) =
    ap (λ y. Some (let l : LogsValue = record { decision = Abort; tallies = y ∷ [] } in l))
    (tally-kept c taken Abort (abort_tally c.f) shard)

pub logged-kept : (c : Setting) (t : TransactionValue) (taken : List TakenValue) →
    logged_by c (involved c t) (kept_votes taken) ≡ settled c t taken
logged-kept c t taken =
    ap (λ o. or_else o (abort_logged c (kept_votes taken) (lowest_enough (involved c t) (kept_votes taken) Abort (abort_tally c.f))))
    (commit_logged-kept c t taken)
    ∙ ap (or_else (logs_commit c t taken))
    (abort_logged-kept c taken (lowest_enough (involved c t) (kept_votes taken) Abort (abort_tally c.f))
    ∙ ap (option_map (certifying.abort_logged c taken)) (lowest-kept c t taken Abort (abort_tally c.f)))

-- ---- one vote more

votes-push : (taken : List TakenValue) (v : VotedValue) →
    counted_votes (taken ++ TakenVote v ∷ []) ≡ counted_votes taken ++ cond (list_any (same_voter v) (counted_votes taken)) [] (v ∷ [])
votes-push taken v =
    ap (firsts same_voter) (filter_map-append vote_in taken (TakenVote v ∷ [])) ∙ firsts-push same_voter (filter_map vote_in taken) v

voted-kept : (taken : List TakenValue) (v : VotedValue) →
    has_voted v.shard v.replica (kept_votes taken) ≡ list_any (same_voter v) (counted_votes taken)
voted-kept taken v = list_any-map counted (is_by v.shard v.replica) (counted_votes taken)

-- it counts
pub votes-one_more : (taken : List TakenValue) (v : VotedValue) → has_voted v.shard v.replica (kept_votes taken) ≡ false →
    counted_votes (taken ++ TakenVote v ∷ []) ≡ counted_votes taken ++ v ∷ []
votes-one_more taken v e =
    votes-push taken v ∙ ap (λ b. counted_votes taken ++ cond b [] (v ∷ [])) (sym (voted-kept taken v) ∙ e)

-- its replica has voted
pub votes-as_before : (taken : List TakenValue) (v : VotedValue) → has_voted v.shard v.replica (kept_votes taken) ≡ true →
    counted_votes (taken ++ TakenVote v ∷ []) ≡ counted_votes taken
votes-as_before taken v e =
    votes-push taken v ∙ ap (λ b. counted_votes taken ++ cond b [] (v ∷ [])) (sym (voted-kept taken v) ∙ e)
    ∙ append-nil (counted_votes taken)

-- a vote brings no log reply and no certificate
pub replies-of_vote : (taken : List TakenValue) (v : VotedValue) → replies_of (taken ++ TakenVote v ∷ []) ≡ replies_of taken
replies-of_vote taken v = filter_map-append counting.reply_in taken (TakenVote v ∷ []) ∙ append-nil (replies_of taken)

certificates-of_vote : (taken : List TakenValue) (v : VotedValue) →
    filter_map certificate_in (taken ++ TakenVote v ∷ []) ≡ filter_map certificate_in taken
certificates-of_vote taken v = filter_map-append certificate_in taken (TakenVote v ∷ []) ∙ append-nil (filter_map certificate_in taken)
