-- What a client decides by the frames that it took, and what it would log (Basil, stages 1 and 2).
use Rattle.std.specs.Prelude.{ℕ, List, [], ◌∷◌, Bool, Option, Some, None, option_map, find, filter_map, slice_get}
use Rattle.std.specs.Prelude.{length, take, map, nat_le, if◌then◌else◌}
use Rattle.std.specs.List.{list_all}
use Rattle.basil_types.specs.Built.{or_else}
use Rattle.basil_types.specs.declared.party.Decision.{Decision}
use Rattle.basil_types.specs.declared.party.Decision.TheVariants.{Commit, Abort}
use Rattle.basil_types.specs.Setting.{Setting}
use Rattle.basil_types.specs.Transaction.{TransactionValue, id}
use Rattle.certificates.specs.Refusals.{decision_of}
use Rattle.frame_views.specs.Values.{VotedValue, LogReplyValue, CertificateValue, BodyValue, CommittedValue, as_commit}
use Rattle.frame_views.specs.Values.{Commits, FastCommit, FastAbort, ConflictAbort, Logged}
use Rattle.quorum_laws.specs.Numbers.{replicas, fast_commit, commit_tally, abort_tally, fast_abort, log_quorum}
use Rattle.txn_meta.specs.Places.{involved, log_shard}
use Rattle.client_recover.specs.Taken.{TakenValue, DecidedValue, LogsValue}
use Rattle.client_recover.specs.Counting.{certificate_in, counted_votes, has_votes, voted_in, tally_of, replies_of}
use Rattle.client_recover.specs.Counting.{logs_with}

abbrev pub certificate_of : TransactionValue → BodyValue → CertificateValue
certificate_of t body = record { id = id t; body = body }

abbrev pub decided_by : CertificateValue → DecidedValue
decided_by c = record { decision = decision_of c.body; certificate = c }

-- each involved shard has so many votes for a decision
abbrev pub each_has : Setting → TransactionValue → List TakenValue → Decision → ℕ → Bool
each_has c t taken d needed = list_all (λ shard. has_votes taken shard d needed) (involved c t)

-- the lowest involved shard that has so many
abbrev pub lowest_with : Setting → TransactionValue → List TakenValue → Decision → ℕ → Option ℕ
lowest_with c t taken d needed = find (λ shard. has_votes taken shard d needed) (involved c t)

-- ---- the five rules, in their order

-- 1: a certificate was taken
abbrev pub by_writeback : List TakenValue → Option CertificateValue
by_writeback taken = slice_get (filter_map certificate_in taken) 0

-- 2: every replica of each involved shard voted to commit
abbrev pub by_fast_commit : Setting → TransactionValue → List TakenValue → Option CertificateValue
by_fast_commit c t taken =
    if each_has c t taken Commit (fast_commit c.f)
    then Some (certificate_of t (Commits (FastCommit (map (tally_of c taken Commit (fast_commit c.f)) (involved c t)))))
    else None

-- 3: a shard has the votes of a fast abort
abbrev pub fast_abort_in : Setting → TransactionValue → List TakenValue → ℕ → CertificateValue
fast_abort_in c t taken shard = certificate_of t (FastAbort (tally_of c taken Abort (fast_abort c.f) shard))

abbrev pub by_fast_abort : Setting → TransactionValue → List TakenValue → Option CertificateValue
by_fast_abort c t taken = option_map (fast_abort_in c t taken) (lowest_with c t taken Abort (fast_abort c.f))

-- 4: a vote shows a rival that is committed
abbrev pub conflict_with : TransactionValue → VotedValue → CommittedValue → CertificateValue
conflict_with t v rival =
    certificate_of t
    (ConflictAbort (record {
      shard = v.shard;
      replica = v.replica;
      signature = v.signature;
      other = rival.transaction;
      proof = as_commit rival.certificate;
    }))

abbrev pub conflict_by : TransactionValue → VotedValue → Option CertificateValue
conflict_by t v = option_map (conflict_with t v) v.proof

abbrev pub by_conflict : TransactionValue → List TakenValue → Option CertificateValue
by_conflict t taken = slice_get (filter_map (conflict_by t) (counted_votes taken)) 0

-- 5: a log quorum of replicas logged one decision in one view
abbrev pub has_logged : Setting → List TakenValue → LogReplyValue → Bool
has_logged c taken r = nat_le (log_quorum c.f) (length (logs_with c taken r))

abbrev pub logged_certificate : Setting → TransactionValue → List TakenValue → LogReplyValue → CertificateValue
logged_certificate c t taken r =
    certificate_of t
    (Commits (Logged (record {
      shard = log_shard c t;
      decision = r.decision;
      decided = r.decided;
      logs = take (log_quorum c.f) (logs_with c taken r);
    })))

abbrev pub by_log : Setting → TransactionValue → List TakenValue → Option CertificateValue
by_log c t taken = option_map (logged_certificate c t taken) (find (has_logged c taken) (replies_of taken))

abbrev pub certificate_by : Setting → TransactionValue → List TakenValue → Option CertificateValue
certificate_by c t taken =
    or_else (by_writeback taken)
    (or_else (by_fast_commit c t taken)
    (or_else (by_fast_abort c t taken)
    (or_else (by_conflict t taken) (by_log c t taken))))

abbrev pub decided : Setting → TransactionValue → List TakenValue → Option DecidedValue
decided c t taken = option_map decided_by (certificate_by c t taken)

-- ---- the second stage

abbrev pub logs_commit : Setting → TransactionValue → List TakenValue → Option LogsValue
logs_commit c t taken =
    if each_has c t taken Commit (commit_tally c.f)
    then Some (record { decision = Commit; tallies = map (tally_of c taken Commit (commit_tally c.f)) (involved c t) })
    else None

abbrev pub abort_logged : Setting → List TakenValue → ℕ → LogsValue
abort_logged c taken shard =
    record { decision = Abort; tallies = tally_of c taken Abort (abort_tally c.f) shard ∷ [] }

abbrev pub logs_abort : Setting → TransactionValue → List TakenValue → Option LogsValue
logs_abort c t taken = option_map (abort_logged c taken) (lowest_with c t taken Abort (abort_tally c.f))

abbrev pub settled : Setting → TransactionValue → List TakenValue → Option LogsValue
settled c t taken = or_else (logs_commit c t taken) (logs_abort c t taken)

-- every replica of every involved shard has a counted vote
abbrev pub all_voted : Setting → TransactionValue → List TakenValue → Bool
all_voted c t taken = list_all (λ shard. nat_le (replicas c.f) (voted_in taken shard)) (involved c t)
