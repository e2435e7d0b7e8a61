-- What borrowed parts that are to be written stand for.
use Rattle.std.specs.Prelude.{map, option_map}
use Rattle.basil_types.specs.Shown.{transaction_of}
use Rattle.frame_views.specs.Shown.{certificate_of, read_of, st1_of, log_reply_of, recover_of, elect_message_of}
use Rattle.frame_views.specs.Values.{FastCommit, Logged, BodyValue, Commits, FastAbort, ConflictAbort, CertificateValue}
use Rattle.frame_views.specs.Values.{as_commit, ReadReplyValue, VotedValue, St2Value, WritebackValue, InvokeValue}
use Rattle.frame_views.specs.Values.{DecideValue, MessageValue, Read, ReadReply, St1, Vote, St2, LogReply, Writeback}
use Rattle.frame_views.specs.Values.{Recover, Invoke, Elect, Decide}
use Rattle.frame_values.specs.declared.lending.parts.ReadReplyParts.{ReadReplyParts}
use Rattle.frame_values.specs.declared.lending.parts.VoteParts.{VoteParts}
use Rattle.frame_values.specs.declared.lending.parts.WritebackParts.{WritebackParts}
use Rattle.frame_values.specs.declared.lending.parts.MessageParts.{MessageParts}
use Rattle.frame_values.specs.declared.lending.parts.MessageParts.TheVariants as lent
use Rattle.frame_values.specs.declared.lending.parts.St2Parts.{St2Parts}
use Rattle.frame_values.specs.declared.lending.parts.InvokeParts.{InvokeParts}
use Rattle.frame_values.specs.declared.lending.parts.DecideParts.{DecideParts}
use Rattle.frame_values.specs.declared.lending.parts.CertificateParts.{CertificateParts}
use Rattle.frame_values.specs.declared.lending.parts.BodyParts.{BodyParts}
use Rattle.frame_values.specs.declared.lending.parts.BodyParts.TheVariants as given
use Rattle.frame_values.specs.Owned.{certificate_value, committed_value, vote_value, tally_value, log_value}
use Rattle.frame_values.specs.Owned.{reply_value, word_value}

abbrev pub body_parts : BodyParts → BodyValue
body_parts (given.FastCommit tallies) = Commits (FastCommit (map tally_value tallies.now))
body_parts (given.Logged shard decision decided logs) =
    Commits (Logged (record { shard = shard; decision = decision; decided = decided; logs = map log_value logs.now }))
body_parts (given.FastAbort shard votes) = FastAbort (record { shard = shard; votes = map vote_value votes.now })
body_parts (given.ConflictAbort shard replica signature other proof) =
    ConflictAbort (record {
      shard =
          shard;
      replica = replica;
      signature = signature.now;
      other = transaction_of other;
      proof = as_commit (certificate_of proof);
    })

abbrev pub certificate_parts : CertificateParts → CertificateValue
certificate_parts c = record { id = c.id; body = body_parts c.body }

abbrev pub read_reply_parts : ReadReplyParts → ReadReplyValue
read_reply_parts m =
    record {
      shard = m.shard;
      replica = m.replica;
      key = (m.key).now;
      time = m.time;
      client = m.client;
      committed = option_map committed_value (m.committed).now;
      prepared = (m.prepared).now;
      signature = (m.signature).now;
    }

abbrev pub vote_parts : VoteParts → VotedValue
vote_parts m =
    record {
      shard = m.shard;
      replica = m.replica;
      id = m.id;
      decision = m.decision;
      proof = option_map committed_value (m.proof).now;
      signature = (m.signature).now;
    }

abbrev pub st2_parts : St2Parts → St2Value
st2_parts m =
    record {
      transaction = transaction_of m.transaction;
      signature = (m.signature).now;
      decision = m.decision;
      tallies = map tally_value (m.tallies).now;
    }

abbrev pub invoke_parts : InvokeParts → InvokeValue
invoke_parts m = record { id = m.id; shard = m.shard; replies = map reply_value (m.replies).now }

abbrev pub decide_parts : DecideParts → DecideValue
decide_parts m =
    record {
      transaction = transaction_of m.transaction;
      shard = m.shard;
      replica = m.replica;
      decision = m.decision;
      view = m.view;
      words = map word_value (m.words).now;
      signature = (m.signature).now;
    }

abbrev pub writeback_parts : WritebackParts → WritebackValue
writeback_parts m =
    record { transaction = transaction_of m.transaction; certificate = certificate_value (m.certificate).now }

abbrev pub message_parts : MessageParts → MessageValue
message_parts (lent.Read m) = Read (read_of m)
message_parts (lent.ReadReply m) = ReadReply (read_reply_parts m)
message_parts (lent.St1 m) = St1 (st1_of m)
message_parts (lent.Vote m) = Vote (vote_parts m)
message_parts (lent.St2 m) = St2 (st2_parts m)
message_parts (lent.LogReply m) = LogReply (log_reply_of m)
message_parts (lent.Writeback m) = Writeback (writeback_parts m)
message_parts (lent.Recover m) = Recover (recover_of m)
message_parts (lent.Invoke m) = Invoke (invoke_parts m)
message_parts (lent.Elect m) = Elect (elect_message_of m)
message_parts (lent.Decide m) = Decide (decide_parts m)
