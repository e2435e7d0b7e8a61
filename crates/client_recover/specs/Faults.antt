-- Which frames a client takes for a transaction that it pursues: the first fault of the others (Basil, stages 1 and 2).
use Rattle.std.specs.Prelude.{◌==◌, Option, option_map, option_and_then}
use Rattle.basil_types.specs.Built.{or_else}
use Rattle.basil_types.specs.Setting.{Setting}
use Rattle.basil_types.specs.Transaction.{TransactionValue}
use Rattle.certificates.specs.Accepted.{Accepted, accepts}
use Rattle.certificates.specs.declared.fault.FrameFault.{FrameFault}
use Rattle.certificates.specs.declared.fault.FrameFault.TheVariants.{NotMine, BadSignature, BadCertificate}
use Rattle.certificates.specs.Refusals.{decision_of, refusal, proof_refusal}
use Rattle.frame_views.specs.Signed.{SignedBy, vote_signed, log_signed}
use Rattle.frame_views.specs.Values.{VotedValue, LogReplyValue, WritebackValue}
use Rattle.node_steps.specs.Refusing.{needs}
use Rattle.txn_meta.specs.Places.{involves, log_shard}
use Rattle.client_recover.specs.Counting.{as_vote}
use Rattle.client_recover.specs.Pursuits.{as_reply}

abbrev pub not_accepted : Accepted → SignedBy → Option FrameFault
not_accepted A signed = needs (accepts A signed) BadSignature

abbrev pub vote_fault : Accepted → Setting → TransactionValue → VotedValue → Option FrameFault
vote_fault A c t v =
    or_else (needs (involves c t v.shard) NotMine)
    (or_else (not_accepted A (vote_signed v.shard v.id v.decision (as_vote v)))
    (option_map BadCertificate (option_and_then (proof_refusal A c t) v.proof)))

abbrev pub log_fault : Accepted → Setting → TransactionValue → LogReplyValue → Option FrameFault
log_fault A c t r =
    or_else (needs (r.shard == log_shard c t) NotMine) (not_accepted A (log_signed r.shard r.id (as_reply r)))

abbrev pub writeback_fault : Accepted → Setting → TransactionValue → WritebackValue → Option FrameFault
writeback_fault A c t m = option_map BadCertificate (refusal A c t (decision_of m.certificate.body) m.certificate)
