-- Which read replies a client takes, and which fault comes first.
use Rattle.std.specs.Prelude.{◌≡◌, ◌==◌, ◌&&◌, Bool, true, Option, Some, None, option_map, option_and_then, IfSome}
use Rattle.std.specs.Prelude.{if◌then◌else◌}
use Rattle.std.specs.Option.{option_map_or}
use Rattle.std.specs.Str.{bytes_eq}
use Rattle.basil_types.specs.Built.{or_else}
use Rattle.basil_types.specs.declared.party.Decision.TheVariants.{Commit}
use Rattle.basil_types.specs.Setting.{Setting}
use Rattle.basil_types.specs.Transaction.{TransactionValue, version_of, writes_key}
use Rattle.basil_types.specs.Version.{below}
use Rattle.frame_views.specs.Signed.{reply_signed}
use Rattle.frame_views.specs.Values.{CommittedValue, ReadValue, ReadReplyValue}
use Rattle.txn_meta.specs.Form.{has_good_form}
use Rattle.txn_meta.specs.Places.{shard_of}
use Rattle.certificates.specs.Accepted.{Accepted, accepts}
use Rattle.certificates.specs.Deciding.{HasGoodForm, Commits}
use Rattle.certificates.specs.Refusals.{refusal}
use Rattle.certificates.specs.declared.fault.FrameFault.{FrameFault}
use Rattle.certificates.specs.declared.fault.FrameFault.TheVariants.{NotMine, BadSignature, BadVersion, BadCertificate}
use Rattle.client_reads.specs.Versions.{limit_of}

-- ---- which replies are valid

-- what a read sees: a transaction of good form, which wrote or deleted the key below the read's limit
pub record IsSeen (read : ReadValue) (t : TransactionValue) : Type 0 where
  pub form : HasGoodForm t
  pub writes : writes_key t read.key ≡ true
  pub below : below (version_of t) (limit_of read) ≡ true

-- a committed transaction that the read sees, with its proof
pub record IsSeenCommitted (A : Accepted) (c : Setting) (read : ReadValue) (part : CommittedValue) : Type 0 where
  pub seen : IsSeen read part.transaction
  pub commits : Commits A c part.transaction part.certificate

-- a reply to this read, which its replica signed and which carries only what the read sees
pub record IsValidReply (A : Accepted) (c : Setting) (read : ReadValue) (reply : ReadReplyValue) : Type 0 where
  pub shard : reply.shard ≡ shard_of c read.key
  pub key : reply.key ≡ read.key
  pub time : reply.time ≡ read.time
  pub client : reply.client ≡ read.client
  pub signed : accepts A (reply_signed reply) ≡ true
  pub committed : IfSome reply.committed (IsSeenCommitted A c read)
  pub prepared : IfSome reply.prepared (IsSeen read)

-- ---- the first fault

abbrev pub answers : Setting → ReadValue → ReadReplyValue → Bool
answers c read reply =
    (reply.shard == shard_of c read.key) && bytes_eq reply.key read.key
    && (reply.time == read.time) && (reply.client == read.client)

abbrev pub is_seen : ReadValue → TransactionValue → Bool
is_seen read t = has_good_form t && writes_key t read.key && below (version_of t) (limit_of read)

abbrev pub is_missing_or_seen : ReadValue → Option TransactionValue → Bool
is_missing_or_seen read t = option_map_or (is_seen read) t true

abbrev pub sees_all : ReadValue → ReadReplyValue → Bool
sees_all read reply =
    is_missing_or_seen read (option_map (λ part. part.transaction) reply.committed)
    && is_missing_or_seen read reply.prepared

abbrev pub not_mine : Setting → ReadValue → ReadReplyValue → Option FrameFault
not_mine c read reply = if answers c read reply then None else Some NotMine

abbrev pub bad_signature : Accepted → ReadReplyValue → Option FrameFault
bad_signature A reply = if accepts A (reply_signed reply) then None else Some BadSignature

abbrev pub bad_version : ReadValue → ReadReplyValue → Option FrameFault
bad_version read reply = if sees_all read reply then None else Some BadVersion

abbrev pub bad_proof : Accepted → Setting → CommittedValue → Option FrameFault
bad_proof A c part = option_map BadCertificate (refusal A c part.transaction Commit part.certificate)

abbrev pub bad_certificate : Accepted → Setting → ReadReplyValue → Option FrameFault
bad_certificate A c reply = option_and_then (bad_proof A c) reply.committed

abbrev pub reply_fault : Accepted → Setting → ReadValue → ReadReplyValue → Option FrameFault
reply_fault A c read reply =
    or_else (not_mine c read reply)
    (or_else (bad_signature A reply)
    (or_else (bad_version read reply)
    (bad_certificate A c reply)))
