-- What a pursuit stands for once it took a frame.
use Rattle.std.proofs.Common.{◌≡◌, ℕ, ◌+◌, Bool, true, false, cond, List, [], ◌∷◌, ◌++◌, length, map, take, Option, Some, None, refl, sym}
use Rattle.std.proofs.Common.{ap, subst, ◌∙◌, append-nil, arith, length-append}
use Rattle.std.specs.Prelude.{filter_map, option_map, is_some, slice_get, ◌-◌, ◌||◌, ◌==◌}
use Rattle.std.proofs.Math.ListN.{length-map}
use Rattle.std.specs.List.{cons_option, list_all}
use Rattle.frame_values.specs.declared.owned.parts.InvokePart.{InvokePart}
use Rattle.frame_values.specs.Owned.{reply_value, message_value}
use Rattle.frame_values.specs.declared.owned.message.Message.{Message}
use Rattle.frame_views.specs.Values.{MessageValue, Invoke}
use Rattle.basil_types.specs.declared.party.Decision.{Decision}
use Rattle.certificates.specs.Refusals.{decision_of}
use Rattle.client_recover.specs.declared.second.ToLog.{ToLog}
use Rattle.client_recover.specs.Owned.{logged_value, unstarted, invoked}
use Rattle.std.proofs.lemmas.Grind.{common_steps}
use Rattle.std.specs.Option.{option_map_or}
use Rattle.std.proofs.Math.Seq.{take-append_seam}
use Rattle.std.proofs.lemmas.List.{map-append, length-take}
use Rattle.std.proofs.lemmas.List.Elements.{filter_map-append}
use Rattle.basil_types.specs.Built.{or_else}
use Rattle.basil_types.specs.Setting.{Setting}
use Rattle.basil_types.specs.Transaction.{TransactionValue, id}
use Rattle.frame_values.specs.declared.owned.certificate.Certificate.{Certificate}
use Rattle.frame_values.specs.Owned.{certificate_value}
use Rattle.frame_views.specs.Values.{VotedValue, LogReplyValue, CertificateValue}
use Rattle.txn_meta.specs.Places.{involved, log_shard}
use Rattle.client_recover.specs.declared.votes.CountedVote.{CountedVote}
use Rattle.client_recover.specs.declared.logs.Logs.{Logs}
use Rattle.client_recover.specs.declared.logs.LastLog.{LastLog}
use Rattle.client_recover.specs.declared.pursuit.Last.{Last}
use Rattle.client_recover.specs.declared.pursuit.Last.TheVariants as last
use Rattle.client_recover.specs.declared.pursuit.Pursuit.{Pursuit}
use Rattle.client_recover.specs.Taken.{TakenValue, TakenVote, TakenLog, TakenCertificate, PursuitValue, DecidedValue, LogsValue}
use Rattle.client_recover.specs.Counting.{certificate_in, vote_in, reply_in, counted_votes, replies_of, replies_held, all_replicas}
use Rattle.client_recover.specs.Certifying.{by_writeback, by_fast_commit, by_fast_abort, conflict_by, by_conflict, by_log, certificate_by}
use Rattle.client_recover.specs.Certifying.{decided_by, settled, all_voted}
use Rattle.client_recover.specs.Pursuits.{PursuitDone, outcome, took, tell, go_on, settle, still, start_second, take_frame, latest_by}
use Rattle.client_recover.specs.Pursuits.{as_reply, second_stage, invoke_message}
use Rattle.client_recover.specs.Kept.{counted, as_latest, has_voted, has_all, fast_by, logged_by}
use Rattle.client_recover.specs.Quorums.{logged_as}
use Rattle.client_recover.specs.Replies.{latest_at, HoldsLogs, HoldsBefore, IsBefore, SameLogs}
use Rattle.client_recover.specs.Standing.{StandsFor, votes_back, LogsBack, outcome_back, GoesBackTo, Takes, IsAsBefore}
use Rattle.client_recover.proofs.Walks.{none_first, none_second, or_none, filter_map-option_map, map-map}
use Rattle.client_recover.proofs.VoteLaws.{kept_votes, fast-kept, logged-kept, all_voted-kept, votes-one_more, votes-as_before}
use Rattle.client_recover.proofs.ReplyLaws.{by_logs, by_logs-push, logged-held, held_same, back_same, before_holds}

-- ---- the certificate, by what counts

or_assoc : {A : Type 0} (a b c : Option A) → or_else a (or_else b c) ≡ or_else (or_else a b) c
or_assoc None b c = refl
or_assoc (Some x) b c = refl

-- by the certificates, the votes that count and the log replies that were taken
abbrev by_parts : Setting → TransactionValue → List CertificateValue → List VotedValue → List LogReplyValue → Option CertificateValue
by_parts c t certificates votes replies =
    or_else (slice_get certificates 0)
    (or_else (fast_by c (id t) (involved c t) (map counted votes))
    (or_else (slice_get (filter_map (conflict_by t) votes) 0) (by_logs c t replies)))

parts_are : (c : Setting) (t : TransactionValue) (taken : List TakenValue) →
    certificate_by c t taken ≡ by_parts c t (filter_map certificate_in taken) (counted_votes taken) (replies_of taken)
parts_are c t taken =
    ap (or_else (by_writeback taken))
    (or_assoc (by_fast_commit c t taken) (by_fast_abort c t taken) (or_else (by_conflict t taken) (by_log c t taken)))
    ∙ ap (λ o. or_else (by_writeback taken) (or_else o (or_else (by_conflict t taken) (by_log c t taken)))) (sym (fast-kept c t taken))

no_first : {A : Type 0} (xs : List A) → slice_get xs 0 ≡ None → xs ≡ []
no_first [] e = refl
no_first (x ∷ xs) e = absurd cc

record NoParts (c : Setting) (t : TransactionValue) (taken : List TakenValue) : Type 0 where
  certificates : filter_map certificate_in taken ≡ []
  fast : fast_by c (id t) (involved c t) (kept_votes taken) ≡ None
  conflicts : filter_map (conflict_by t) (counted_votes taken) ≡ []
  logs : by_logs c t (replies_of taken) ≡ None

no_parts : (c : Setting) (t : TransactionValue) (taken : List TakenValue) → certificate_by c t taken ≡ None → NoParts c t taken
no_parts c t taken e =
    let all = sym (parts_are c t taken) ∙ e in
    let later = none_second (slice_get (filter_map certificate_in taken) 0) _ all in
    let last = none_second (fast_by c (id t) (involved c t) (kept_votes taken)) _ later in
    record {
      certificates = no_first (filter_map certificate_in taken) (none_first _ _ all);
      fast = none_first _ _ later;
      conflicts = no_first (filter_map (conflict_by t) (counted_votes taken)) (none_first _ _ last);
      logs = none_second (slice_get (filter_map (conflict_by t) (counted_votes taken)) 0) _ last;
    }

-- ---- a vote more

certificates-of_vote : (taken : List TakenValue) (v : VotedValue) →
    filter_map certificate_in (taken ++ TakenVote v ∷ []) ≡ filter_map certificate_in taken
certificates-of_vote taken v = filter_map-append certificate_in taken (TakenVote v ∷ []) ∙ append-nil (filter_map certificate_in taken)

replies-of_vote : (taken : List TakenValue) (v : VotedValue) → replies_of (taken ++ TakenVote v ∷ []) ≡ replies_of taken
replies-of_vote taken v = filter_map-append reply_in taken (TakenVote v ∷ []) ∙ append-nil (replies_of taken)

first_given : {A B : Type 0} (f : A → Option B) (a : A) → slice_get (filter_map f (a ∷ [])) 0 ≡ f a
first_given {A} {B} f a = by (f a)
  where
    by : (o : Option B) → slice_get (cons_option o []) 0 ≡ o
    by None = refl
    by (Some b) = refl

pub decided_by_vote : (c : Setting) (t : TransactionValue) (taken : List TakenValue) (v : VotedValue) → certificate_by c t taken ≡ None →
    has_voted v.shard v.replica (kept_votes taken) ≡ false →
    certificate_by c t (taken ++ TakenVote v ∷ [])
    ≡ or_else (fast_by c (id t) (involved c t) (kept_votes taken ++ counted v ∷ [])) (conflict_by t v)
decided_by_vote c t taken v none first =
    let all = taken ++ TakenVote v ∷ [] in
    let no = no_parts c t taken none in
    let votes = votes-one_more taken v first in
    let fast = fast_by c (id t) (involved c t) (kept_votes taken ++ counted v ∷ []) in
    parts_are c t all
    ∙ ap (λ cs. by_parts c t cs (counted_votes all) (replies_of all)) (certificates-of_vote taken v ∙ no.certificates)
    ∙ ap (λ vs. by_parts c t [] vs (replies_of all)) votes
    ∙ ap (λ vs. or_else (fast_by c (id t) (involved c t) vs)
    (or_else (slice_get (filter_map (conflict_by t) (counted_votes taken ++ v ∷ [])) 0) (by_logs c t (replies_of all))))
    (map-append counted (counted_votes taken) (v ∷ []))
    ∙ ap (λ o. or_else fast (or_else (slice_get (filter_map (conflict_by t) (counted_votes taken ++ v ∷ [])) 0) o))
    (ap (by_logs c t) (replies-of_vote taken v) ∙ no.logs)
    ∙ ap (or_else fast) (or_none (slice_get (filter_map (conflict_by t) (counted_votes taken ++ v ∷ [])) 0)
    ∙ ap (λ cs. slice_get cs 0)
    (filter_map-append (conflict_by t) (counted_votes taken) (v ∷ []) ∙ ap (λ cs. cs ++ filter_map (conflict_by t) (v ∷ [])) no.conflicts)
    ∙ first_given (conflict_by t) v)

-- a second vote of a replica
pub undecided_by_vote : (c : Setting) (t : TransactionValue) (taken : List TakenValue) (v : VotedValue) →
    has_voted v.shard v.replica (kept_votes taken) ≡ true → certificate_by c t (taken ++ TakenVote v ∷ []) ≡ certificate_by c t taken
undecided_by_vote c t taken v again =
    let all = taken ++ TakenVote v ∷ [] in
    parts_are c t all
    ∙ ap (λ cs. by_parts c t cs (counted_votes all) (replies_of all)) (certificates-of_vote taken v)
    ∙ ap (λ vs. by_parts c t (filter_map certificate_in taken) vs (replies_of all)) (votes-as_before taken v again)
    ∙ ap (λ rs. by_parts c t (filter_map certificate_in taken) (counted_votes taken) rs) (replies-of_vote taken v)
    ∙ sym (parts_are c t taken)

-- ---- a log reply more

certificates-of_log : (taken : List TakenValue) (r : LogReplyValue) →
    filter_map certificate_in (taken ++ TakenLog r ∷ []) ≡ filter_map certificate_in taken
certificates-of_log taken r = filter_map-append certificate_in taken (TakenLog r ∷ []) ∙ append-nil (filter_map certificate_in taken)

votes-of_log : (taken : List TakenValue) (r : LogReplyValue) → counted_votes (taken ++ TakenLog r ∷ []) ≡ counted_votes taken
votes-of_log taken r =
    ap (Rattle.node_steps.specs.Lists.firsts Rattle.client_recover.specs.Counting.same_voter)
    (filter_map-append vote_in taken (TakenLog r ∷ []) ∙ append-nil (filter_map vote_in taken))

replies-of_log : (taken : List TakenValue) (r : LogReplyValue) → replies_of (taken ++ TakenLog r ∷ []) ≡ replies_of taken ++ r ∷ []
replies-of_log taken r = filter_map-append reply_in taken (TakenLog r ∷ [])

pub decided_by_log : (c : Setting) (t : TransactionValue) (taken : List TakenValue) (r : LogReplyValue) (l : Logs) →
    certificate_by c t taken ≡ None →
    HoldsLogs l (replies_of taken ++ r ∷ []) → certificate_by c t (taken ++ TakenLog r ∷ []) ≡ logged_as c t l r.decision r.decided
decided_by_log c t taken r l none held =
    let all = taken ++ TakenLog r ∷ [] in
    let no = no_parts c t taken none in
    parts_are c t all
    ∙ ap (λ cs. by_parts c t cs (counted_votes all) (replies_of all)) (certificates-of_log taken r ∙ no.certificates)
    ∙ ap (λ vs. by_parts c t [] vs (replies_of all)) (votes-of_log taken r)
    ∙ ap (λ o. or_else o (or_else (slice_get (filter_map (conflict_by t) (counted_votes taken)) 0) (by_logs c t (replies_of all)))) no.fast
    ∙ ap (λ cs. or_else (slice_get cs 0) (by_logs c t (replies_of all))) no.conflicts
    ∙ ap (by_logs c t) (replies-of_log taken r) ∙ by_logs-push c t (replies_of taken) r no.logs
    ∙ sym (logged-held c t l (replies_of taken ++ r ∷ []) r held)

-- ---- a certificate more

pub decided_by_certificate : (c : Setting) (t : TransactionValue) (taken : List TakenValue) (x : CertificateValue) →
    certificate_by c t taken ≡ None →
    certificate_by c t (taken ++ TakenCertificate x ∷ []) ≡ Some x
decided_by_certificate c t taken x none =
    let all = taken ++ TakenCertificate x ∷ [] in
    let no = no_parts c t taken none in
    parts_are c t all
    ∙ ap (λ cs. by_parts c t cs (counted_votes all) (replies_of all))
    (filter_map-append certificate_in taken (TakenCertificate x ∷ []) ∙ ap (λ cs. cs ++ x ∷ []) no.certificates)

votes-of_certificate : (taken : List TakenValue) (x : CertificateValue) →
    counted_votes (taken ++ TakenCertificate x ∷ []) ≡ counted_votes taken
votes-of_certificate taken x =
    ap (Rattle.node_steps.specs.Lists.firsts Rattle.client_recover.specs.Counting.same_voter)
    (filter_map-append vote_in taken (TakenCertificate x ∷ []) ∙ append-nil (filter_map vote_in taken))

replies-of_certificate : (taken : List TakenValue) (x : CertificateValue) → replies_of (taken ++ TakenCertificate x ∷ []) ≡ replies_of taken
replies-of_certificate taken x = filter_map-append reply_in taken (TakenCertificate x ∷ []) ∙ append-nil (replies_of taken)

-- ---- what follows once a frame was taken

with_second : (u : Pursuit) (p : PursuitValue) → StandsFor u p → StandsFor u (record p { second = true })
with_second u p h = record { transaction = h.transaction; signature = h.signature; votes = h.votes; logs = h.logs; outcome = h.outcome }

settled_stands : (u : Pursuit) (c : Setting) (p : PursuitValue) → StandsFor u p → StandsFor u (settle c p).pursuit
settled_stands u c p h = by (is_some (outcome c p) || p.second) (settled c p.transaction p.taken)
  where
    by : (b : Bool) (o : Option LogsValue) →
        StandsFor u (let d : PursuitDone = cond b (still p) (option_map_or (start_second c p) o (still p)) in d).pursuit
    by true o = h
    by false None = h
    by false (Some l) = with_second u p h

after_outcome : (u : Pursuit) (c : Setting) (p : PursuitValue) (o : Option DecidedValue) → StandsFor u p →
    StandsFor u (let d : PursuitDone = option_map_or (tell c p) o (go_on c p) in d).pursuit
after_outcome u c p (Some d) h = h
after_outcome u c p None h = by (all_voted c p.transaction p.taken)
  where
    by : (b : Bool) → StandsFor u (let d : PursuitDone = cond b (settle c p) (still p) in d).pursuit
    by true = settled_stands u c p h
    by false = h

-- it is taken where there is no outcome
pub takes_open : (u : Pursuit) (c : Setting) (p : PursuitValue) (x : TakenValue) → certificate_by c p.transaction p.taken ≡ None →
    StandsFor u (took p x) → StandsFor u (take_frame c p x).pursuit
takes_open u c p x none h =
    subst (λ (b : Bool). StandsFor u
    (let d : PursuitDone = cond b (still p)
    (option_map_or (tell c (took p x)) (outcome c (took p x)) (go_on c (took p x))) in d).pursuit)
    (sym (ap (λ o. is_some (option_map decided_by o)) none)) (after_outcome u c (took p x) (outcome c (took p x)) h)

some_decided : (o : Option CertificateValue) → is_some o ≡ true → is_some (option_map decided_by o) ≡ true
some_decided None e = absurd cc
some_decided (Some x) e = refl

-- nothing is taken where there is one
pub takes_ended : (u : Pursuit) (c : Setting) (p : PursuitValue) (x : TakenValue) →
    is_some (certificate_by c p.transaction p.taken) ≡ true →
    StandsFor u p → StandsFor u (take_frame c p x).pursuit
takes_ended u c p x some h =
    subst (λ (b : Bool). StandsFor u
    (let d : PursuitDone = cond b (still p)
    (option_map_or (tell c (took p x)) (outcome c (took p x)) (go_on c (took p x))) in d).pursuit)
    (sym (some_decided (certificate_by c p.transaction p.taken) some)) h

-- ---- the pursuit itself

-- all but what the last frame changed is alike
pub record Alike (old new : Pursuit) : Type 0 where
  pub transaction : new.transaction ≡ old.transaction
  pub signature : new.signature ≡ old.signature
  pub cluster : new.cluster ≡ old.cluster

some_value : (o : Option Certificate) → is_some (option_map certificate_value o) ≡ is_some o
some_value None = refl
some_value (Some x) = refl

no_item : {A : Type 0} (o : Option A) → is_some o ≡ false → o ≡ None
no_item None e = refl
no_item (Some a) e = absurd cc

open_at : (u : Pursuit) (p : PursuitValue) → StandsFor u p → is_some u.outcome ≡ false →
    certificate_by u.cluster p.transaction p.taken ≡ None
open_at u p h none = sym h.outcome ∙ ap (option_map certificate_value) (no_item u.outcome none)

ended_at : (u : Pursuit) (p : PursuitValue) → StandsFor u p → is_some u.outcome ≡ true →
    is_some (certificate_by u.cluster p.transaction p.taken) ≡ true
ended_at u p h some = sym (ap is_some h.outcome) ∙ some_value u.outcome ∙ some

-- what stands for something, and changes nothing but what `undo` does
same_stands : (old new : Pursuit) (p : PursuitValue) → Alike old new → new.votes ≡ old.votes → SameLogs old.logs new.logs →
    new.outcome ≡ old.outcome →
    StandsFor old p → StandsFor new p
same_stands old new p a votes logs ended h =
    record {
      transaction = a.transaction ∙ h.transaction;
      signature = a.signature ∙ h.signature;
      votes = votes ∙ h.votes;
      logs = held_same old.logs new.logs (replies_of p.taken) logs h.logs;
      outcome = ap (option_map certificate_value) ended ∙ h.outcome ∙ ap (λ c. certificate_by c p.transaction p.taken) (sym a.cluster);
    }

goes_back_same : (new : Pursuit) (p : PursuitValue) → new.last ≡ last.Same → StandsFor new p → GoesBackTo new p
goes_back_same new p e h =
    record {
      transaction = h.transaction;
      signature = h.signature;
      votes = ap (λ l. votes_back l new.votes) e ∙ h.votes;
      logs = subst (λ l. LogsBack l new.logs (replies_of p.taken)) (sym e) h.logs;
      outcome = ap (λ l. outcome_back l (option_map certificate_value new.outcome)) e ∙ h.outcome;
    }

pub same_itself : (l : Logs) → SameLogs l l
same_itself l = record { earliest = λ d view n. refl; latest = λ n. refl; count = refl }

pub alike_itself : (u : Pursuit) → Alike u u
alike_itself u = record { transaction = refl; signature = refl; cluster = refl }

-- ---- a frame is taken and nothing is kept of it

pub skips_ended : (old new : Pursuit) (x : TakenValue) → Alike old new → new.votes ≡ old.votes → SameLogs old.logs new.logs →
    new.outcome ≡ old.outcome →
    new.last ≡ last.Same → is_some old.outcome ≡ true → Takes old new x
skips_ended old new x a votes logs ended e some =
    record {
      now = λ p h. takes_ended new old.cluster p x (ended_at old p h some) (same_stands old new p a votes logs ended h);
      back = λ p h. goes_back_same new p e (same_stands old new p a votes logs ended h);
    }

pub skips_vote : (old new : Pursuit) (v : VotedValue) → Alike old new → new.votes ≡ old.votes → SameLogs old.logs new.logs →
    new.outcome ≡ old.outcome →
    new.last ≡ last.Same → is_some old.outcome ≡ false → has_voted v.shard v.replica old.votes ≡ true → Takes old new (TakenVote v)
skips_vote old new v a votes logs ended e none again =
    record {
      now = λ p h.
          let same = same_stands old new p a votes logs ended h in
          let voted = sym (ap (has_voted v.shard v.replica) h.votes) ∙ again in
          takes_open new old.cluster p (TakenVote v) (open_at old p h none)
          (record {
            transaction = same.transaction;
            signature = same.signature;
            votes = same.votes ∙ ap (map counted) (sym (votes-as_before p.taken v voted));
            logs = subst (HoldsLogs new.logs) (sym (replies-of_vote p.taken v)) same.logs;
            outcome = same.outcome ∙ sym (undecided_by_vote new.cluster p.transaction p.taken v voted);
          });
      back = λ p h. goes_back_same new p e (same_stands old new p a votes logs ended h);
    }

-- ---- a vote counts

without_pushed : (votes : List CountedVote) (v : CountedVote) → take (length (votes ++ v ∷ []) - 1) (votes ++ v ∷ []) ≡ votes
without_pushed votes v =
    let n : length (votes ++ v ∷ []) - 1 ≡ length votes = omega (arith, length-append votes (v ∷ [])) in
    ap (λ n. take n (votes ++ v ∷ [])) n ∙ take-append_seam votes (v ∷ [])

pub counts_vote : (old new : Pursuit) (v : VotedValue) → Alike old new → new.votes ≡ old.votes ++ counted v ∷ [] → new.logs ≡ old.logs →
    new.last ≡ last.Vote →
    old.outcome ≡ None → has_voted v.shard v.replica old.votes ≡ false →
    option_map certificate_value new.outcome
    ≡ or_else (fast_by old.cluster (id old.transaction) (involved old.cluster old.transaction) (old.votes ++ counted v ∷ []))
    (conflict_by old.transaction v) →
    Takes old new (TakenVote v)
counts_vote old new v a votes logs e none first ended =
    record {
      now = λ p h.
          let open_now = open_at old p h (ap is_some none) in
          let voted = sym (ap (has_voted v.shard v.replica) h.votes) ∙ first in
          takes_open new old.cluster p (TakenVote v) open_now
          (record {
            transaction = a.transaction ∙ h.transaction;
            signature = a.signature ∙ h.signature;
            votes = votes ∙ ap (λ vs. vs ++ counted v ∷ []) h.votes
                ∙ sym (ap (map counted) (votes-one_more p.taken v voted) ∙ map-append counted (counted_votes p.taken) (v ∷ []));
            logs = subst (HoldsLogs new.logs) (sym (replies-of_vote p.taken v))
                (subst (λ l. HoldsLogs l (replies_of p.taken)) (sym logs) h.logs);
            outcome = ended
                ∙ ap (λ t. or_else (fast_by old.cluster (id t) (involved old.cluster t) (old.votes ++ counted v ∷ []))
                (conflict_by t v)) h.transaction
                ∙ ap (λ vs. or_else (fast_by old.cluster (id p.transaction) (involved old.cluster p.transaction) (vs ++ counted v ∷ []))
                (conflict_by p.transaction v)) h.votes
                ∙ sym (decided_by_vote old.cluster p.transaction p.taken v open_now voted)
                ∙ ap (λ c. certificate_by c p.transaction (p.taken ++ TakenVote v ∷ [])) (sym a.cluster);
          });
      back = λ p h.
          record {
            transaction = a.transaction ∙ h.transaction;
            signature = a.signature ∙ h.signature;
            votes = ap (λ l. votes_back l new.votes) e ∙ ap (λ vs. take (length vs - 1) vs) votes ∙ without_pushed old.votes (counted v)
                ∙ h.votes;
            logs = subst (λ l. LogsBack l new.logs (replies_of p.taken)) (sym e)
                (subst (λ l. HoldsLogs l (replies_of p.taken)) (sym logs) h.logs);
            outcome = ap (λ l. outcome_back l (option_map certificate_value new.outcome)) e ∙ sym (ap (option_map certificate_value) none)
                ∙ h.outcome ∙ ap (λ c. certificate_by c p.transaction p.taken) (sym a.cluster);
          };
    }

-- ---- a log reply counts

pub counts_log : (old new : Pursuit) (r : LogReplyValue) (l : LastLog) → Alike old new → new.votes ≡ old.votes →
    ((replies : List LogReplyValue) → HoldsLogs old.logs replies → HoldsLogs new.logs (replies ++ r ∷ [])) →
    IsBefore l old.logs new.logs → new.last ≡ last.Log l → old.outcome ≡ None →
    option_map certificate_value new.outcome ≡ logged_as old.cluster old.transaction new.logs r.decision r.decided →
    Takes old new (TakenLog r)
counts_log old new r l a votes held before e none ended =
    record {
      now = λ p h.
          let open_now = open_at old p h (ap is_some none) in
          let more = held (replies_of p.taken) h.logs in
          takes_open new old.cluster p (TakenLog r) open_now
          (record {
            transaction = a.transaction ∙ h.transaction;
            signature = a.signature ∙ h.signature;
            votes = votes ∙ h.votes ∙ ap (map counted) (sym (votes-of_log p.taken r));
            logs = subst (HoldsLogs new.logs) (sym (replies-of_log p.taken r)) more;
            outcome = ended
                ∙ ap (λ t. logged_as old.cluster t new.logs r.decision r.decided) h.transaction
                ∙ sym (decided_by_log old.cluster p.transaction p.taken r new.logs open_now more)
                ∙ ap (λ c. certificate_by c p.transaction (p.taken ++ TakenLog r ∷ [])) (sym a.cluster);
          });
      back = λ p h.
          record {
            transaction = a.transaction ∙ h.transaction;
            signature = a.signature ∙ h.signature;
            votes = ap (λ l. votes_back l new.votes) e ∙ votes ∙ h.votes;
            logs = subst (λ l. LogsBack l new.logs (replies_of p.taken)) (sym e)
                (before_holds l old.logs new.logs (replies_of p.taken) before h.logs);
            outcome = ap (λ l. outcome_back l (option_map certificate_value new.outcome)) e ∙ sym (ap (option_map certificate_value) none)
                ∙ h.outcome ∙ ap (λ c. certificate_by c p.transaction p.taken) (sym a.cluster);
          };
    }

-- ---- a certificate is the outcome

pub takes_outcome : (old new : Pursuit) (x : CertificateValue) → Alike old new → new.votes ≡ old.votes → new.logs ≡ old.logs →
    new.last ≡ last.Outcome →
    is_some old.outcome ≡ false → option_map certificate_value new.outcome ≡ Some x → Takes old new (TakenCertificate x)
takes_outcome old new x a votes logs e none ended =
    record {
      now = λ p h.
          let open_now = open_at old p h none in
          takes_open new old.cluster p (TakenCertificate x) open_now
          (record {
            transaction = a.transaction ∙ h.transaction;
            signature = a.signature ∙ h.signature;
            votes = votes ∙ h.votes ∙ ap (map counted) (sym (votes-of_certificate p.taken x));
            logs = subst (HoldsLogs new.logs) (sym (replies-of_certificate p.taken x))
                (subst (λ l. HoldsLogs l (replies_of p.taken)) (sym logs) h.logs);
            outcome = ended ∙ sym (decided_by_certificate old.cluster p.transaction p.taken x open_now)
                ∙ ap (λ c. certificate_by c p.transaction (p.taken ++ TakenCertificate x ∷ [])) (sym a.cluster);
          });
      back = λ p h.
          record {
            transaction = a.transaction ∙ h.transaction;
            signature = a.signature ∙ h.signature;
            votes = ap (λ l. votes_back l new.votes) e ∙ votes ∙ h.votes;
            logs = subst (λ l. LogsBack l new.logs (replies_of p.taken)) (sym e)
                (subst (λ l. HoldsLogs l (replies_of p.taken)) (sym logs) h.logs);
            outcome = ap (λ l. outcome_back l (option_map certificate_value new.outcome)) e
                ∙ sym (ap (option_map certificate_value) (no_item old.outcome none)) ∙ h.outcome
                ∙ ap (λ c. certificate_by c p.transaction p.taken) (sym a.cluster);
          };
    }

-- ---- as before

logs_back_same : (l : Last) (old new : Logs) (replies : List LogReplyValue) → SameLogs old new → LogsBack l old replies →
    LogsBack l new replies
logs_back_same last.Same old new replies s h = held_same old new replies s h
logs_back_same last.Vote old new replies s h = held_same old new replies s h
logs_back_same (last.Log l) old new replies s h = back_same old new l replies s h
logs_back_same last.Outcome old new replies s h = held_same old new replies s h

pub as_before : (old new : Pursuit) → Alike old new → new.votes ≡ old.votes → SameLogs old.logs new.logs → new.outcome ≡ old.outcome →
    new.last ≡ old.last →
    IsAsBefore old new
as_before old new a votes logs ended e =
    record {
      now = λ p h. same_stands old new p a votes logs ended h;
      back = λ p h.
          record {
            transaction = a.transaction ∙ h.transaction;
            signature = a.signature ∙ h.signature;
            votes = ap (λ l. votes_back l new.votes) e ∙ ap (votes_back old.last) votes ∙ h.votes;
            logs = subst (λ l. LogsBack l new.logs (replies_of p.taken)) (sym e)
                (logs_back_same old.last old.logs new.logs (replies_of p.taken) logs h.logs);
            outcome = ap (λ l. outcome_back l (option_map certificate_value new.outcome)) e
                ∙ ap (λ o. outcome_back old.last (option_map certificate_value o)) ended ∙ h.outcome
                ∙ ap (λ c. certificate_by c p.transaction p.taken) (sym a.cluster);
          };
    }

-- ---- what is told

pub logged_stands : (u : Pursuit) (p : PursuitValue) → StandsFor u p → u.shards ≡ involved u.cluster u.transaction →
    logged_by u.cluster u.shards u.votes ≡ settled u.cluster p.transaction p.taken
logged_stands u p h shards =
    ap (λ s. logged_by u.cluster s u.votes) shards
    ∙ ap (λ t. logged_by u.cluster (involved u.cluster t) u.votes) h.transaction
    ∙ ap (λ vs. logged_by u.cluster (involved u.cluster p.transaction) vs) h.votes ∙ logged-kept u.cluster p.transaction p.taken

pub voted_stands : (u : Pursuit) (p : PursuitValue) → StandsFor u p → u.shards ≡ involved u.cluster u.transaction →
    list_all (has_all u.cluster u.votes) u.shards ≡ all_voted u.cluster p.transaction p.taken
voted_stands u p h shards =
    ap (λ s. list_all (has_all u.cluster u.votes) s) shards
    ∙ ap (λ t. list_all (has_all u.cluster u.votes) (involved u.cluster t)) h.transaction
    ∙ ap (λ vs. list_all (has_all u.cluster vs) (involved u.cluster p.transaction)) h.votes ∙ all_voted-kept u.cluster p.transaction p.taken

pub held_stands : (u : Pursuit) (p : PursuitValue) → StandsFor u p → length u.votes + u.logs.count ≡ replies_held p.taken
held_stands u p h =
    ap (λ (vs : List CountedVote). length vs + u.logs.count) h.votes
    ∙ ap (λ n. n + u.logs.count) (length-map (counted_votes p.taken) counted)
    ∙ ap (λ n. length (counted_votes p.taken) + n) h.logs.count

-- before the last one
pub stands_back : (u : Pursuit) (p : PursuitValue) → u.last ≡ last.Same → GoesBackTo u p → StandsFor u p
stands_back u p e h =
    record {
      transaction = h.transaction;
      signature = h.signature;
      votes = sym (ap (λ l. votes_back l u.votes) e) ∙ h.votes;
      logs = subst (λ l. LogsBack l u.logs (replies_of p.taken)) e h.logs;
      outcome = sym (ap (λ l. outcome_back l (option_map certificate_value u.outcome)) e) ∙ h.outcome;
    }

pub held_without : (u : Pursuit) (p : PursuitValue) (votes : List CountedVote) → votes ≡ map counted (counted_votes p.taken) →
    HoldsLogs u.logs (replies_of p.taken) →
    length votes + u.logs.count ≡ replies_held p.taken
held_without u p votes is logs =
    ap (λ (vs : List CountedVote). length vs + u.logs.count) is ∙ ap (λ n. n + u.logs.count) (length-map (counted_votes p.taken) counted)
    ∙ ap (λ n. length (counted_votes p.taken) + n) logs.count

pub held_back_outcome : (u : Pursuit) (p : PursuitValue) → u.last ≡ last.Outcome → GoesBackTo u p →
    length u.votes + u.logs.count ≡ replies_held p.taken
held_back_outcome u p e h =
    held_without u p u.votes (sym (ap (λ l. votes_back l u.votes) e) ∙ h.votes)
    (subst (λ l. LogsBack l u.logs (replies_of p.taken)) e h.logs)

pub held_back_vote : (u : Pursuit) (p : PursuitValue) → u.last ≡ last.Vote → GoesBackTo u p →
    (length u.votes - 1) + u.logs.count ≡ replies_held p.taken
held_back_vote u p e h =
    let one_less : length (take (length u.votes - 1) u.votes) ≡ length u.votes - 1 =
    omega (arith, length-take (length u.votes - 1) u.votes) in
    ap (λ n. n + u.logs.count) (sym one_less)
    ∙ held_without u p (take (length u.votes - 1) u.votes) (sym (ap (λ l. votes_back l u.votes) e) ∙ h.votes)
    (subst (λ l. LogsBack l u.logs (replies_of p.taken)) e h.logs)

pub held_back_log : (u : Pursuit) (p : PursuitValue) (l : LastLog) → u.last ≡ last.Log l → GoesBackTo u p →
    length u.votes + (u.logs.count - 1) ≡ replies_held p.taken
held_back_log u p l e h =
    let votes : u.votes ≡ map counted (counted_votes p.taken) = sym (ap (λ l. votes_back l u.votes) e) ∙ h.votes in
    let logs : HoldsBefore l u.logs (replies_of p.taken) = subst (λ l. LogsBack l u.logs (replies_of p.taken)) e h.logs in
    let few : u.logs.count - 1 ≡ length (replies_of p.taken) = omega (arith, logs.count) in
    ap (λ (vs : List CountedVote). length vs + (u.logs.count - 1)) votes
    ∙ ap (λ n. n + (u.logs.count - 1)) (length-map (counted_votes p.taken) counted)
    ∙ ap (λ n. length (counted_votes p.taken) + n) few

pub latest_stands : (u : Pursuit) (p : PursuitValue) → StandsFor u p →
    map reply_value (filter_map (latest_at u.logs) (all_replicas u.cluster))
    ≡ map as_reply (filter_map (latest_by (replies_of p.taken)) (all_replicas u.cluster))
latest_stands u p h =
    ap (λ (f : ℕ → Option InvokePart). map reply_value (filter_map f (all_replicas u.cluster))) (λ i n. h.logs.latest n i)
    ∙ ap (map reply_value) (filter_map-option_map as_latest (latest_by (replies_of p.taken)) (all_replicas u.cluster))
    ∙ map-map as_latest reply_value (filter_map (latest_by (replies_of p.taken)) (all_replicas u.cluster))

pub second_stands : (u : Pursuit) (p : PursuitValue) → StandsFor u p → u.shards ≡ involved u.cluster u.transaction →
    (o : Option ToLog) (l : ToLog) (m : Message) → o ≡ Some l →
    option_map logged_value o ≡ logged_by u.cluster u.shards u.votes →
    message_value m ≡ second_stage (unstarted u.transaction u.signature) (logged_value l) →
    option_map message_value (Some m) ≡ option_map (second_stage p) (settled u.cluster p.transaction p.taken)
second_stands u p h shards o l m is logged told =
    ap Some
    (told ∙ ap (λ t. second_stage (unstarted t u.signature) (logged_value l)) h.transaction
    ∙ ap (λ s. second_stage (unstarted p.transaction s) (logged_value l)) h.signature)
    ∙ ap (option_map (second_stage p)) (sym (ap (option_map logged_value) is) ∙ logged ∙ logged_stands u p h shards)

pub no_second : (u : Pursuit) (p : PursuitValue) → StandsFor u p → u.shards ≡ involved u.cluster u.transaction → (o : Option ToLog) →
    o ≡ None →
    option_map logged_value o ≡ logged_by u.cluster u.shards u.votes →
    None ≡ option_map (second_stage p) (settled u.cluster p.transaction p.taken)
no_second u p h shards o is logged =
    ap (option_map (second_stage p)) (sym (ap (option_map logged_value) is) ∙ logged ∙ logged_stands u p h shards)

counts_none : (n : ℕ) → n ≡ 0 → (n == 0) ≡ true
counts_none n e = grind (arith, common_steps)

counts_some : (n : ℕ) → (n ≡ 0 → ⊥) → (n == 0) ≡ false
counts_some n e = grind (arith, common_steps)

pub no_invoke : (u : Pursuit) (p : PursuitValue) → StandsFor u p → u.logs.count ≡ 0 →
    None ≡ cond (length (replies_of p.taken) == 0) None (Some (invoke_message u.cluster p))
no_invoke u p h none =
    sym (ap (λ b. cond b None (Some (invoke_message u.cluster p))) (counts_none (length (replies_of p.taken)) (sym h.logs.count ∙ none)))

pub invoke_stands : (u : Pursuit) (p : PursuitValue) (m : Message) → StandsFor u p → (u.logs.count ≡ 0 → ⊥) →
    message_value m ≡ invoked u.cluster u.transaction u.logs →
    option_map message_value (Some m) ≡ cond (length (replies_of p.taken) == 0) None (Some (invoke_message u.cluster p))
invoke_stands u p m h some told =
    ap Some
    (told ∙ ap (λ t. invoked u.cluster t u.logs) h.transaction
    ∙ ap (λ rs. let v : MessageValue = Invoke
    (record { id = id p.transaction; shard = log_shard u.cluster p.transaction; replies = rs }) in v) (latest_stands u p h))
    ∙ sym (ap (λ b. cond b None (Some (invoke_message u.cluster p)))
    (counts_some (length (replies_of p.taken)) (λ e. some (h.logs.count ∙ e))))

pub outcome_stands : (u : Pursuit) (p : PursuitValue) → StandsFor u p → (x : Certificate) (d : Decision) → u.outcome ≡ Some x →
    d ≡ decision_of (certificate_value x).body →
    Some (let v : DecidedValue = record { decision = d; certificate = certificate_value x } in v) ≡ outcome u.cluster p
outcome_stands u p h x d is e =
    ap (λ d. Some (let v : DecidedValue = record { decision = d; certificate = certificate_value x } in v)) e
    ∙ ap (option_map decided_by) (sym (ap (option_map certificate_value) is) ∙ h.outcome)

pub no_outcome_stands : (u : Pursuit) (p : PursuitValue) → StandsFor u p → u.outcome ≡ None → None ≡ outcome u.cluster p
no_outcome_stands u p h is = ap (option_map decided_by) (sym (ap (option_map certificate_value) is) ∙ h.outcome)

pub no_outcome_back : (u : Pursuit) (p : PursuitValue) → GoesBackTo u p →
    outcome_back u.last (option_map certificate_value u.outcome) ≡ None → None ≡ outcome u.cluster p
no_outcome_back u p h none = ap (option_map decided_by) (sym none ∙ h.outcome)

-- ---- undone

undone : (old new : Pursuit) (p : PursuitValue) → Alike old new → GoesBackTo old p → new.votes ≡ votes_back old.last old.votes →
    HoldsLogs new.logs (replies_of p.taken) →
    option_map certificate_value new.outcome ≡ outcome_back old.last (option_map certificate_value old.outcome) → StandsFor new p
undone old new p a h votes logs ended =
    record {
      transaction = a.transaction ∙ h.transaction;
      signature = a.signature ∙ h.signature;
      votes = votes ∙ h.votes;
      logs = logs;
      outcome = ended ∙ h.outcome ∙ ap (λ c. certificate_by c p.transaction p.taken) (sym a.cluster);
    }

pub undoes_same : (old new : Pursuit) (p : PursuitValue) → old.last ≡ last.Same → Alike old new → new.votes ≡ old.votes →
    new.logs ≡ old.logs →
    new.outcome ≡ old.outcome → GoesBackTo old p → StandsFor new p
undoes_same old new p e a votes logs ended h =
    undone old new p a h (votes ∙ sym (ap (λ l. votes_back l old.votes) e))
    (subst (λ l. HoldsLogs l (replies_of p.taken)) (sym logs) (subst (λ l. LogsBack l old.logs (replies_of p.taken)) e h.logs))
    (ap (option_map certificate_value) ended ∙ sym (ap (λ l. outcome_back l (option_map certificate_value old.outcome)) e))

pub undoes_vote : (old new : Pursuit) (p : PursuitValue) → old.last ≡ last.Vote → Alike old new →
    new.votes ≡ take (length old.votes - 1) old.votes →
    new.logs ≡ old.logs → new.outcome ≡ None → GoesBackTo old p → StandsFor new p
undoes_vote old new p e a votes logs ended h =
    undone old new p a h (votes ∙ sym (ap (λ l. votes_back l old.votes) e))
    (subst (λ l. HoldsLogs l (replies_of p.taken)) (sym logs) (subst (λ l. LogsBack l old.logs (replies_of p.taken)) e h.logs))
    (ap (option_map certificate_value) ended ∙ sym (ap (λ l. outcome_back l (option_map certificate_value old.outcome)) e))

pub undoes_log : (old new : Pursuit) (p : PursuitValue) (l : LastLog) → old.last ≡ last.Log l → Alike old new → new.votes ≡ old.votes →
    ((replies : List LogReplyValue) → HoldsBefore l old.logs replies → HoldsLogs new.logs replies) → new.outcome ≡ None → GoesBackTo old p →
    StandsFor new p
undoes_log old new p l e a votes logs ended h =
    undone old new p a h (votes ∙ sym (ap (λ l. votes_back l old.votes) e))
    (logs (replies_of p.taken) (subst (λ l. LogsBack l old.logs (replies_of p.taken)) e h.logs))
    (ap (option_map certificate_value) ended ∙ sym (ap (λ l. outcome_back l (option_map certificate_value old.outcome)) e))

pub undoes_outcome : (old new : Pursuit) (p : PursuitValue) → old.last ≡ last.Outcome → Alike old new → new.votes ≡ old.votes →
    new.logs ≡ old.logs →
    new.outcome ≡ None → GoesBackTo old p → StandsFor new p
undoes_outcome old new p e a votes logs ended h =
    undone old new p a h (votes ∙ sym (ap (λ l. votes_back l old.votes) e))
    (subst (λ l. HoldsLogs l (replies_of p.taken)) (sym logs) (subst (λ l. LogsBack l old.logs (replies_of p.taken)) e h.logs))
    (ap (option_map certificate_value) ended ∙ sym (ap (λ l. outcome_back l (option_map certificate_value old.outcome)) e))

pub back_once : (new : Pursuit) (p : PursuitValue) → new.last ≡ last.Same → StandsFor new p → GoesBackTo new p
back_once new p e h = goes_back_same new p e h
