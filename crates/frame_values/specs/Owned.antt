-- What owned messages and certificates stand for.
use Rattle.std.specs.Prelude.{ℕ, List, [], map, option_map}
use Rattle.frame_values.specs.declared.owned.parts as parts
use Rattle.frame_values.specs.declared.owned.certificate.Certificate.{Certificate}
use Rattle.frame_values.specs.declared.owned.certificate.CertificateBody.{CertificateBody}
use Rattle.frame_values.specs.declared.owned.certificate.CertificateBody.TheVariants as owned
use Rattle.frame_values.specs.declared.owned.message as messages
use Rattle.frame_values.specs.declared.owned.message.Message.{Message}
use Rattle.frame_values.specs.declared.owned.message.Message.TheVariants as message
use Rattle.frame_views.specs.Values.{VoteValue, TallyValue, LogValue, ReplyValue, WordValue, FastCommit, Logged}
use Rattle.frame_views.specs.Values.{CommitValue, BodyValue, Commits, FastAbort, ConflictAbort, CertificateValue}
use Rattle.frame_views.specs.Values.{CommittedValue, ReadValue, ReadReplyValue, SignedValue, VotedValue, St2Value}
use Rattle.frame_views.specs.Values.{LogReplyValue, WritebackValue, InvokeValue, ElectValue, DecideValue, MessageValue}
use Rattle.frame_views.specs.Values.{Read, ReadReply, St1, Vote, St2, LogReply, Writeback, Recover, Invoke, Elect}
use Rattle.frame_views.specs.Values.{Decide}

abbrev pub vote_value : parts.VotePart.VotePart → VoteValue
vote_value v = record { replica = v.replica; signature = v.signature }

abbrev pub tally_value : parts.ShardVotes.ShardVotes → TallyValue
tally_value s = record { shard = s.shard; votes = map vote_value s.votes.items }

abbrev pub log_value : parts.LogPart.LogPart → LogValue
log_value l = record { replica = l.replica; current = l.current; signature = l.signature }

abbrev pub reply_value : parts.InvokePart.InvokePart → ReplyValue
reply_value r =
    record {
      replica = r.replica;
      decision = r.decision;
      decided = r.decided;
      current = r.current;
      signature = r.signature;
    }

abbrev pub word_value : parts.ElectPart.ElectPart → WordValue
word_value w = record { replica = w.replica; decision = w.decision; signature = w.signature }

-- the commit certificate inside of a conflict abort; a certificate of another kind there is none, and what stands for
-- it has no spelling
abbrev pub commit_value : List ℕ → CertificateBody → CommitValue
commit_value id (owned.FastCommit tallies) = record { id = id; body = FastCommit (map tally_value tallies.items) }
commit_value id (owned.Logged shard decision decided logs) =
    record {
      id = id;
      body = Logged (record {
        shard = shard;
        decision = decision;
        decided = decided;
        logs = map log_value logs.items;
      });
    }
commit_value id (owned.FastAbort shard votes) = record { id = []; body = FastCommit [] }
commit_value id (owned.ConflictAbort' shard replica signature other at proof-id proof-body) =
    record { id = []; body = FastCommit [] }

abbrev pub body_value : CertificateBody → BodyValue
body_value (owned.FastCommit tallies) = Commits (FastCommit (map tally_value tallies.items))
body_value (owned.Logged shard decision decided logs) =
    Commits (Logged (record {
      shard = shard;
      decision = decision;
      decided = decided;
      logs = map log_value logs.items;
    }))
body_value (owned.FastAbort shard votes) = FastAbort (record { shard = shard; votes = map vote_value votes.items })
body_value (owned.ConflictAbort' shard replica signature other at proof-id proof-body) =
    ConflictAbort (record {
      shard =
          shard;
      replica = replica;
      signature = signature;
      other = other;
      proof = commit_value proof-id proof-body;
    })

abbrev pub certificate_value : Certificate → CertificateValue
certificate_value c = record { id = c.id; body = body_value c.body }

abbrev pub committed_value : parts.CommittedPart.CommittedPart → CommittedValue
committed_value c = record { transaction = c.transaction; certificate = certificate_value c.certificate }

abbrev pub read_value : messages.ReadMessage.ReadMessage → ReadValue
read_value m = record { key = m.key; time = m.time; client = m.client }

abbrev pub read_reply_value : messages.ReadReplyMessage.ReadReplyMessage → ReadReplyValue
read_reply_value m =
    record {
      shard = m.shard;
      replica = m.replica;
      key = m.key;
      time = m.time;
      client = m.client;
      committed = option_map committed_value m.committed;
      prepared = m.prepared;
      signature = m.signature;
    }

abbrev pub st1_value : messages.St1Message.St1Message → SignedValue
st1_value m = record { transaction = m.transaction; signature = m.signature }

abbrev pub voted_value : messages.VoteMessage.VoteMessage → VotedValue
voted_value m =
    record {
      shard = m.shard;
      replica = m.replica;
      id = m.id;
      decision = m.decision;
      proof = option_map committed_value m.proof;
      signature = m.signature;
    }

abbrev pub st2_value : messages.St2Message.St2Message → St2Value
st2_value m =
    record {
      transaction = m.transaction;
      signature = m.signature;
      decision = m.decision;
      tallies = map tally_value m.tallies.items;
    }

abbrev pub log_reply_value : messages.LogReplyMessage.LogReplyMessage → LogReplyValue
log_reply_value m =
    record {
      shard = m.shard;
      replica = m.replica;
      id = m.id;
      decision = m.decision;
      decided = m.decided;
      current = m.current;
      signature = m.signature;
    }

abbrev pub writeback_value : messages.WritebackMessage.WritebackMessage → WritebackValue
writeback_value m = record { transaction = m.transaction; certificate = certificate_value m.certificate }

abbrev pub recover_value : messages.RecoverMessage.RecoverMessage → SignedValue
recover_value m = record { transaction = m.transaction; signature = m.signature }

abbrev pub invoke_value : messages.InvokeMessage.InvokeMessage → InvokeValue
invoke_value m = record { id = m.id; shard = m.shard; replies = map reply_value m.replies.items }

abbrev pub elect_value : messages.ElectMessage.ElectMessage → ElectValue
elect_value m =
    record {
      transaction = m.transaction;
      shard = m.shard;
      replica = m.replica;
      decision = m.decision;
      view = m.view;
      signature = m.signature;
    }

abbrev pub decide_value : messages.DecideMessage.DecideMessage → DecideValue
decide_value m =
    record {
      transaction = m.transaction;
      shard = m.shard;
      replica = m.replica;
      decision = m.decision;
      view = m.view;
      words = map word_value m.words.items;
      signature = m.signature;
    }

abbrev pub message_value : Message → MessageValue
message_value (message.Read m) = Read (read_value m)
message_value (message.ReadReply m) = ReadReply (read_reply_value m)
message_value (message.St1 m) = St1 (st1_value m)
message_value (message.Vote m) = Vote (voted_value m)
message_value (message.St2 m) = St2 (st2_value m)
message_value (message.LogReply m) = LogReply (log_reply_value m)
message_value (message.Writeback m) = Writeback (writeback_value m)
message_value (message.Recover m) = Recover (recover_value m)
message_value (message.Invoke m) = Invoke (invoke_value m)
message_value (message.Elect m) = Elect (elect_value m)
message_value (message.Decide m) = Decide (decide_value m)
