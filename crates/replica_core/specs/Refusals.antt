-- What is refused of a frame before what it asks for is looked at, in this order.
use Rattle.std.specs.Prelude.{ℕ, List, [], ◌∷◌, Bool, false, ◌==◌, ◌&&◌, Option, Some, None, option_map}
use Rattle.std.specs.Prelude.{option_and_then}
use Rattle.basil_types.specs.Built.{or_else}
use Rattle.basil_types.specs.Transaction.{TransactionValue}
use Rattle.certificates.specs.Accepted.{first_refused}
use Rattle.certificates.specs.Refusals.{decision_of, refusal, tallies_refusal}
use Rattle.frame_views.specs.Signed.{SignedBy, client_signed, signed_in}
use Rattle.frame_views.specs.Values.{MessageValue, Read, ReadReply, St1, Vote, St2, LogReply, Writeback, Recover}
use Rattle.frame_views.specs.Values.{Invoke, Elect, Decide}
use Rattle.node_steps.specs.Refusing.{needs}
use Rattle.txn_meta.specs.Form.{form_fault}
use Rattle.txn_meta.specs.Places.{shard_of, involves}
use Rattle.replica_core.specs.declared.refusal.Refusal.{Refusal}
use Rattle.replica_core.specs.declared.refusal.Refusal.TheVariants.{BadTransaction, NotMine, BadSignature}
use Rattle.replica_core.specs.declared.refusal.Refusal.TheVariants.{BadCertificate, BadTally}
use Rattle.replica_core.specs.SecondStage.{logs_here}
use Rattle.replica_core.specs.Replicas.{ReplicaSelf}

-- the transaction that a frame is about
abbrev pub subject : MessageValue → Option TransactionValue
subject (Read m) = None
subject (ReadReply m) = None
subject (St1 m) = Some m.transaction
subject (Vote m) = None
subject (St2 m) = Some m.transaction
subject (LogReply m) = None
subject (Writeback m) = Some m.transaction
subject (Recover m) = Some m.transaction
subject (Invoke m) = None
subject (Elect m) = Some m.transaction
subject (Decide m) = Some m.transaction

abbrev pub bad_transaction : MessageValue → Option Refusal
bad_transaction m = option_map BadTransaction (option_and_then form_fault (subject m))

-- ---- for this replica

abbrev pub is_own_key : ReplicaSelf → List ℕ → Bool
is_own_key me key = shard_of me.home.cluster key == me.home.shard

abbrev pub is_involved : ReplicaSelf → TransactionValue → Bool
is_involved me t = involves me.home.cluster t me.home.shard

abbrev pub is_mine : ReplicaSelf → MessageValue → Bool
is_mine me (Read m) = is_own_key me m.key
is_mine me (ReadReply m) = false
is_mine me (St1 m) = is_involved me m.transaction
is_mine me (Vote m) = false
is_mine me (St2 m) = logs_here me m.transaction
is_mine me (LogReply m) = false
is_mine me (Writeback m) = is_involved me m.transaction
is_mine me (Recover m) = is_involved me m.transaction
is_mine me (Invoke m) = m.shard == me.home.shard
is_mine me (Elect m) = logs_here me m.transaction && (m.shard == me.home.shard)
is_mine me (Decide m) = logs_here me m.transaction && (m.shard == me.home.shard)

abbrev pub not_mine : ReplicaSelf → MessageValue → Option Refusal
not_mine me m = needs (is_mine me m) NotMine

-- ---- signatures and certificates

-- the signatures that are tested as the frame's own; the rest is tested with the tallies or the certificate
abbrev pub tested : MessageValue → List SignedBy
tested (Read m) = []
tested (ReadReply m) = []
tested (St1 m) = client_signed m.transaction m.signature ∷ []
tested (Vote m) = []
tested (St2 m) = client_signed m.transaction m.signature ∷ []
tested (LogReply m) = []
tested (Writeback m) = []
tested (Recover m) = client_signed m.transaction m.signature ∷ []
tested (Invoke m) = signed_in (Invoke m)
tested (Elect m) = signed_in (Elect m)
tested (Decide m) = signed_in (Decide m)

abbrev pub bad_signature : ReplicaSelf → MessageValue → Option Refusal
bad_signature me m = option_map BadSignature (first_refused me.accepts (tested m))

abbrev pub bad_proof : ReplicaSelf → MessageValue → Option Refusal
bad_proof me (Read m) = None
bad_proof me (ReadReply m) = None
bad_proof me (St1 m) = None
bad_proof me (Vote m) = None
bad_proof me (St2 m) =
    option_map BadTally (tallies_refusal me.accepts me.home.cluster m.transaction m.decision m.tallies)
bad_proof me (LogReply m) = None
bad_proof me (Writeback m) =
    option_map BadCertificate
    (refusal me.accepts me.home.cluster m.transaction (decision_of m.certificate.body) m.certificate)
bad_proof me (Recover m) = None
bad_proof me (Invoke m) = None
bad_proof me (Elect m) = None
bad_proof me (Decide m) = None

abbrev pub refused : ReplicaSelf → MessageValue → Option Refusal
refused me m = or_else (bad_transaction m) (or_else (not_mine me m) (or_else (bad_signature me m) (bad_proof me m)))
