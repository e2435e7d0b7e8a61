-- Which refusal comes first.
use Rattle.std.specs.Prelude.{ℕ, List, [], ◌∷◌, length, not, ◌==◌, ◌&&◌, nat_lt, if◌then◌else◌}
use Rattle.std.specs.Prelude.{Option, Some, None, option_map, option_and_then, slice_get, find}
use Rattle.std.specs.Str.{bytes_eq}
use Rattle.basil_types.specs.Built.{or_else}
use Rattle.basil_types.specs.declared.party.Decision.{Decision}
use Rattle.basil_types.specs.declared.party.Decision.TheVariants.{Commit, Abort}
use Rattle.basil_types.specs.Decision.{same_decision}
use Rattle.basil_types.specs.Setting.{Setting}
use Rattle.basil_types.specs.Transaction as transactions
use Rattle.basil_types.specs.Transaction.{TransactionValue}
use Rattle.frame_views.specs.Signed.{SignedBy, certificate_signed, tallies_signed}
use Rattle.frame_views.specs.Values as values
use Rattle.frame_views.specs.Values.{TallyValue, BodyValue, CertificateValue, as_certificate}
pub use Rattle.frame_views.specs.Values.{PairValue}
use Rattle.quorum_laws.specs.Numbers.{fast_commit, fast_abort, commit_tally, abort_tally, log_quorum}
use Rattle.txn_meta.specs.Conflicts.{conflict}
use Rattle.txn_meta.specs.Form.{has_good_form}
use Rattle.txn_meta.specs.Places.{involves, involved, log_shard}
use Rattle.certificates.specs.declared.refusal.CertRefusal.{CertRefusal}
use Rattle.certificates.specs.declared.refusal.CertRefusal.TheVariants.{WrongId, Mixed, NotInvolved, Few}
use Rattle.certificates.specs.declared.refusal.CertRefusal.TheVariants.{NoConflict, BadSignature}
use Rattle.certificates.specs.Accepted.{Accepted, first_refused}
use Rattle.certificates.specs.Tallies.{lists}

-- ---- parts of tests

abbrev pub all_shards : List ℕ
all_shards = 0 ∷ 1 ∷ 2 ∷ 3 ∷ 4 ∷ 5 ∷ 6 ∷ 7 ∷ []

-- one shard, which must be involved
abbrev pub stray : Setting → TransactionValue → ℕ → Option CertRefusal
stray c t shard = if involves c t shard then None else Some (NotInvolved shard)

-- one shard, which must be the log shard
abbrev pub stray_logged : Setting → TransactionValue → ℕ → Option CertRefusal
stray_logged c t shard = if shard == log_shard c t then None else Some (NotInvolved shard)

-- the least shard that is listed and not involved, else the least that is involved and not listed
abbrev pub stray_listed : Setting → TransactionValue → List TallyValue → Option CertRefusal
stray_listed c t tallies =
    option_map NotInvolved
    (or_else (find (λ s. lists tallies s && not (involves c t s)) all_shards)
    (find (λ s. involves c t s && not (lists tallies s)) all_shards))

abbrev pub few : (count needed : ℕ) → Option CertRefusal
few count needed = if nat_lt count needed then Some (Few count needed) else None

-- the first listed shard with too few votes
abbrev pub few_listed : (needed : ℕ) → List TallyValue → Option CertRefusal
few_listed needed tallies =
    option_map (λ t. Few (length t.votes) needed) (find (λ t. nat_lt (length t.votes) needed) tallies)

abbrev pub bad_signature : Accepted → List SignedBy → Option CertRefusal
bad_signature A signed = option_map BadSignature (first_refused A signed)

-- ---- tests of a transaction and a certificate

abbrev pub decision_of : BodyValue → Decision
decision_of (values.Commits (values.FastCommit tallies)) = Commit
decision_of (values.Commits (values.Logged logged)) = logged.decision
decision_of (values.FastAbort tally) = Abort
decision_of (values.ConflictAbort x) = Abort

abbrev pub wrong_id : PairValue → Option CertRefusal
wrong_id p = if bytes_eq p.certificate.id (transactions.id p.transaction) then None else Some WrongId

abbrev pub mixed : Decision → PairValue → Option CertRefusal
mixed decision p = if same_decision (decision_of p.certificate.body) decision then None else Some Mixed

abbrev pub not_involved_by : Setting → TransactionValue → BodyValue → Option CertRefusal
not_involved_by c t (values.Commits (values.FastCommit tallies)) = stray_listed c t tallies
not_involved_by c t (values.Commits (values.Logged logged)) = stray_logged c t logged.shard
not_involved_by c t (values.FastAbort tally) = stray c t tally.shard
not_involved_by c t (values.ConflictAbort x) = stray c t x.shard

abbrev pub not_involved : Setting → PairValue → Option CertRefusal
not_involved c p = not_involved_by c p.transaction p.certificate.body

abbrev pub too_few_by : Setting → BodyValue → Option CertRefusal
too_few_by c (values.Commits (values.FastCommit tallies)) = few_listed (fast_commit c.f) tallies
too_few_by c (values.Commits (values.Logged logged)) = few (length logged.logs) (log_quorum c.f)
too_few_by c (values.FastAbort tally) = few (length tally.votes) (fast_abort c.f)
too_few_by c (values.ConflictAbort x) = None

abbrev pub too_few : Setting → PairValue → Option CertRefusal
too_few c p = too_few_by c p.certificate.body

-- the other transaction of a conflict abort has a good form, and conflicts
abbrev pub no_conflict_by : TransactionValue → BodyValue → Option CertRefusal
no_conflict_by t (values.Commits body) = None
no_conflict_by t (values.FastAbort tally) = None
no_conflict_by t (values.ConflictAbort x) =
    if has_good_form x.other && conflict t x.other then None else Some NoConflict

abbrev pub no_conflict : PairValue → Option CertRefusal
no_conflict p = no_conflict_by p.transaction p.certificate.body

-- the pair inside of a conflict abort, where its transaction has a good form
abbrev pub nested_in : BodyValue → Option PairValue
nested_in (values.Commits body) = None
nested_in (values.FastAbort tally) = None
nested_in (values.ConflictAbort x) =
    if has_good_form x.other
    then Some (record { transaction = x.other; certificate = as_certificate x.proof }) else None

abbrev pub nested : PairValue → Option PairValue
nested p = nested_in p.certificate.body

-- a test of a pair, and then one of the pair inside of it
abbrev pub first_then : Option CertRefusal → (PairValue → Option CertRefusal) → Option PairValue → Option CertRefusal
first_then outer test inner = or_else outer (option_and_then test inner)

-- ---- the first refusal, in order of the numbers; of one number, the outer pair's comes first

abbrev pub wrong_ids : PairValue → Option PairValue → Option CertRefusal
wrong_ids p inner = first_then (wrong_id p) wrong_id inner

abbrev pub mixed_pairs : Decision → PairValue → Option PairValue → Option CertRefusal
mixed_pairs decision p inner = first_then (mixed decision p) (mixed Commit) inner

abbrev pub strays : Setting → PairValue → Option PairValue → Option CertRefusal
strays c p inner = first_then (not_involved c p) (not_involved c) inner

abbrev pub shortages : Setting → PairValue → Option PairValue → Option CertRefusal
shortages c p inner = first_then (too_few c p) (too_few c) inner

abbrev pub refusal_of : Accepted → Setting → Decision → PairValue → Option CertRefusal
refusal_of A c decision p =
    or_else (wrong_ids p (nested p))
    (or_else (mixed_pairs decision p (nested p))
    (or_else (strays c p (nested p))
    (or_else (shortages c p (nested p))
    (or_else (no_conflict p)
    (bad_signature A (certificate_signed p.certificate))))))

-- of a certificate for this decision on a transaction
abbrev pub refusal : Accepted → Setting → TransactionValue → Decision → CertificateValue → Option CertRefusal
refusal A c t decision certificate = refusal_of A c decision (record { transaction = t; certificate = certificate })

-- ---- the proof of a vote to abort

-- a transaction without a good form conflicts with none
abbrev pub ill_formed : TransactionValue → Option CertRefusal
ill_formed t = if has_good_form t then None else Some NoConflict

abbrev pub no_rival : TransactionValue → PairValue → Option CertRefusal
no_rival t p = if conflict t p.transaction then None else Some NoConflict

-- that nothing conflicts comes before the signatures
abbrev pub no_rival_signed : Accepted → TransactionValue → PairValue → List SignedBy → Option CertRefusal
no_rival_signed A t p signed = or_else (no_rival t p) (bad_signature A signed)

-- of a rival with a good form
abbrev pub rival_refusal : Accepted → Setting → TransactionValue → PairValue → Option CertRefusal
rival_refusal A c t p =
    or_else (wrong_id p)
    (or_else (mixed Commit p)
    (or_else (not_involved c p)
    (or_else (too_few c p)
    (no_rival_signed A t p (certificate_signed p.certificate)))))

-- the form comes before all else
abbrev pub proof_refusal : Accepted → Setting → TransactionValue → PairValue → Option CertRefusal
proof_refusal A c t p = or_else (ill_formed p.transaction) (rival_refusal A c t p)

-- ---- tallies

-- the shard listed last, where this one and these stand there
abbrev pub last_shard : ℕ → List TallyValue → ℕ
last_shard shard [] = shard
last_shard shard (next ∷ rest) = last_shard next.shard rest

-- to abort, there must be one shard: else the last listed one is named, or the least involved one where none is listed
abbrev pub stray_alone : Setting → TransactionValue → List TallyValue → Option CertRefusal
stray_alone c t [] = option_map NotInvolved (slice_get (involved c t) 0)
stray_alone c t (tally ∷ []) = stray c t tally.shard
stray_alone c t (tally ∷ other ∷ tallies) = Some (NotInvolved (last_shard other.shard tallies))

abbrev pub stray_tallies : Setting → TransactionValue → Decision → List TallyValue → Option CertRefusal
stray_tallies c t Commit tallies = stray_listed c t tallies
stray_tallies c t Abort tallies = stray_alone c t tallies

-- votes of a shard that let this decision be logged
abbrev pub tally_needs : ℕ → Decision → ℕ
tally_needs f Commit = commit_tally f
tally_needs f Abort = abort_tally f

abbrev pub tallies_refusal : Accepted → Setting → TransactionValue → Decision → List TallyValue → Option CertRefusal
tallies_refusal A c t decision tallies =
    or_else (stray_tallies c t decision tallies)
    (or_else (few_listed (tally_needs c.f decision) tallies)
    (bad_signature A (tallies_signed (transactions.id t) decision tallies)))
