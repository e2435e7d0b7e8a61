-- What views of certificates and frames show.
use Rattle.std.specs.Prelude.{◌≡◌, option_map, true, ⊤}
pub use Rattle.basil_types.specs.Shown.{transaction_of}
use Rattle.frame_views.specs.declared.certificates.view.CertificateView.{CertificateView}
use Rattle.frame_views.specs.declared.certificates.body.CertBody.{CertBody}
use Rattle.frame_views.specs.declared.certificates.body.CertBody.TheVariants as shown
use Rattle.frame_views.specs.declared.certificates.body.CertParts.{CertParts}
use Rattle.frame_views.specs.declared.frames.views as views
use Rattle.frame_views.specs.declared.frames.views.MessageView.TheVariants as view
use Rattle.frame_views.specs.Items.{votes_of, tallies_of, logs_of, replies_of, elects_of}
use Rattle.frame_views.specs.Stored.{certificate_in}
use Rattle.frame_views.specs.Fitting.{is_commit}
use Rattle.frame_views.specs.Values.{FastCommit, Logged, BodyValue, Commits, FastAbort, ConflictAbort, CertificateValue}
use Rattle.frame_views.specs.Values.{as_commit}
use Rattle.frame_views.specs.Values.{ReadValue, CommittedValue, ReadReplyValue, SignedValue, VotedValue, St2Value}
use Rattle.frame_views.specs.Values.{LogReplyValue, WritebackValue, InvokeValue, ElectValue, DecideValue, MessageValue}
use Rattle.frame_views.specs.Values.{Read, ReadReply, St1, Vote, St2, LogReply, Writeback, Recover, Invoke, Elect}
use Rattle.frame_views.specs.Values.{Decide}

-- ---- certificates

abbrev pub certificate_of : CertificateView → CertificateValue
certificate_of c = certificate_in (c.bytes).now

abbrev pub body_of : CertBody → BodyValue
body_of (shown.FastCommit tallies) = Commits (FastCommit (tallies_of tallies))
body_of (shown.Logged shard decision decided logs) =
    Commits (Logged (record { shard = shard; decision = decision; decided = decided; logs = logs_of logs }))
body_of (shown.FastAbort shard votes) = FastAbort (record { shard = shard; votes = votes_of votes })
body_of (shown.ConflictAbort shard replica signature other proof) =
    ConflictAbort (record {
      shard = shard;
      replica = replica;
      signature = signature.now;
      other = transaction_of other;
      proof = as_commit (certificate_of proof);
    })

-- the certificate inside of a conflict abort is of a kind that may commit
abbrev pub HoldsCommit : CertBody → Type 0
HoldsCommit (shown.FastCommit tallies) = ⊤
HoldsCommit (shown.Logged shard decision decided logs) = ⊤
HoldsCommit (shown.FastAbort shard votes) = ⊤
HoldsCommit (shown.ConflictAbort shard replica signature other proof) = is_commit (certificate_of proof).body ≡ true

abbrev pub parts_of : CertParts → CertificateValue
parts_of p = record { id = p.id; body = body_of p.body }

-- ---- messages

abbrev pub committed_of : views.CommittedView.CommittedView → CommittedValue
committed_of c = record { transaction = transaction_of c.transaction; certificate = certificate_of c.certificate }

abbrev pub read_of : views.ReadView.ReadView → ReadValue
read_of m = record { key = (m.key).now; time = m.time; client = m.client }

abbrev pub read_reply_of : views.ReadReplyView.ReadReplyView → ReadReplyValue
read_reply_of m =
    record {
      shard = m.shard;
      replica = m.replica;
      key = (m.key).now;
      time = m.time;
      client = m.client;
      committed = option_map committed_of m.committed;
      prepared = option_map transaction_of m.prepared;
      signature = (m.signature).now;
    }

abbrev pub st1_of : views.St1View.St1View → SignedValue
st1_of m = record { transaction = transaction_of m.transaction; signature = (m.signature).now }

abbrev pub voted_of : views.VoteView.VoteView → VotedValue
voted_of m =
    record {
      shard = m.shard;
      replica = m.replica;
      id = m.id;
      decision = m.decision;
      proof = option_map committed_of m.proof;
      signature = (m.signature).now;
    }

abbrev pub st2_of : views.St2View.St2View → St2Value
st2_of m =
    record {
      transaction = transaction_of m.transaction;
      signature = (m.signature).now;
      decision = m.decision;
      tallies = tallies_of m.tallies;
    }

abbrev pub log_reply_of : views.LogReplyView.LogReplyView → LogReplyValue
log_reply_of m =
    record {
      shard = m.shard;
      replica = m.replica;
      id = m.id;
      decision = m.decision;
      decided = m.decided;
      current = m.current;
      signature = (m.signature).now;
    }

abbrev pub writeback_of : views.WritebackView.WritebackView → WritebackValue
writeback_of m = record { transaction = transaction_of m.transaction; certificate = certificate_of m.certificate }

abbrev pub recover_of : views.RecoverView.RecoverView → SignedValue
recover_of m = record { transaction = transaction_of m.transaction; signature = (m.signature).now }

abbrev pub invoke_of : views.InvokeView.InvokeView → InvokeValue
invoke_of m = record { id = m.id; shard = m.shard; replies = replies_of m.replies }

abbrev pub elect_message_of : views.ElectView.ElectView → ElectValue
elect_message_of m =
    record {
      transaction = transaction_of m.transaction;
      shard = m.shard;
      replica = m.replica;
      decision = m.decision;
      view = m.view;
      signature = (m.signature).now;
    }

abbrev pub decide_of : views.DecideView.DecideView → DecideValue
decide_of m =
    record {
      transaction = transaction_of m.transaction;
      shard = m.shard;
      replica = m.replica;
      decision = m.decision;
      view = m.view;
      words = elects_of m.words;
      signature = (m.signature).now;
    }

abbrev pub message_of : views.MessageView.MessageView → MessageValue
message_of (view.Read m) = Read (read_of m)
message_of (view.ReadReply m) = ReadReply (read_reply_of m)
message_of (view.St1 m) = St1 (st1_of m)
message_of (view.Vote m) = Vote (voted_of m)
message_of (view.St2 m) = St2 (st2_of m)
message_of (view.LogReply m) = LogReply (log_reply_of m)
message_of (view.Writeback m) = Writeback (writeback_of m)
message_of (view.Recover m) = Recover (recover_of m)
message_of (view.Invoke m) = Invoke (invoke_of m)
message_of (view.Elect m) = Elect (elect_message_of m)
message_of (view.Decide m) = Decide (decide_of m)
